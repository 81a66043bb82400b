-- What is read was written so.
use Rattle.std.proofs.Common.{◌≡◌, ℕ, zero, suc, ◌+◌, ◌-◌, ◌==◌, ◌<◌, ◌≤◌, Bool, true, false, List, [], ◌∷◌, ◌++◌, length, replicate, Option, Some, None, IfSome, if◌then◌else◌, slice_set, Ok, refl, sym, ap, ◌∙◌, subst, append_assoc, arith, length-append}
use Rattle.std.specs.Int.{w32, w64}
use Rattle.std.specs.List.{AllByRecursion}
use Rattle.std.proofs.Math.Seq.{set-append_seam, get_or-append_seam}
use Rattle.std.proofs.lemmas.Bool.{eqb-true}
use Rattle.byte_grammar.specs.Numbers.{IsBytes, word, zeros}
use Rattle.byte_grammar.proofs.Bytes.{wide32, wide64}
use Rattle.tree_model.specs.declared.reply.Reply.{Reply}
use Rattle.tree_model.specs.declared.reply.Reply.TheVariants as replies
use Rattle.reply_cache.specs.declared.seats.Seat.{Seat}
use Rattle.reply_cache.specs.Seats.{answer_of, refusal_of, is_answer, has_later, put_seat}
use Rattle.object_store.specs.ImageReading.{at, number_at, zeros_at, most32}
use Rattle.object_store.proofs.ImageFields.{bind_ok, ok_is, Takes, Takes-then, number_is, number_takes, zeros_take}
use Rattle.update_record.specs.Spelling.{reply_code}
use Rattle.update_record.specs.Values.{answers, first_with, answer_at}
use Rattle.state_image.specs.declared.front.Front.{Front}
use Rattle.state_image.specs.declared.reading.Taken.{Taken}
use Rattle.state_image.specs.FrontText.{numbers_text, seat_text, seats_from, taken_count, seats_text, front_text, last_epoch, most, FitsSeat, FitsFront}
use Rattle.state_image.specs.FrontReading.{names_at, known, reply_at, seat_at, taken_at, seats_at, front_in}
use Rattle.state_image.proofs.Answers.{known_answers}

-- ---- answers

some_is : {A : Type 0} (x y : A) → Some x ≡ Some y → x ≡ y
some_is x y e = cc

code_is : (n : ℕ) (x r : Reply) (more : Option Reply) (b : Bool) → (reply_code x == n) ≡ b → (more ≡ Some r → n ≡ reply_code r) → (if b then Some x else more) ≡ Some r → n ≡ reply_code r
code_is n x r more true h others e = sym (eqb-true (reply_code x) n h) ∙ ap reply_code (some_is x r e)
code_is n x r more false h others e = others e

answer_code : (n : ℕ) (rs : List Reply) (r : Reply) → first_with n rs ≡ Some r → n ≡ reply_code r
answer_code n [] r e = absurd cc
answer_code n (x ∷ xs) r e = code_is n x r (first_with n xs) (reply_code x == n) refl (answer_code n xs r) e

kept_answer : (r : Reply) → is_answer r ≡ true → answer_of (refusal_of r) ≡ r
kept_answer replies.Ok h = refl
kept_answer (replies.Fid f) h = absurd cc
kept_answer (replies.Attr d m u g l) h = absurd cc
kept_answer (replies.Value v) h = absurd cc
kept_answer (replies.Err e) h = refl

known_is : (o : Option Reply) (place : ℕ) (after : List ℕ) (r : Reply) (rest : List ℕ) → known o place after ≡ Ok (r, rest) → (o ≡ Some r) × (after ≡ rest)
known_is None place after r rest e = absurd cc
known_is (Some x) place after r rest e =
    let p = ok_is (x, after) (r, rest) e in
    (ap (λ (q : Reply × List ℕ). Some q.0) p, ap (λ (q : Reply × List ℕ). q.1) p)

reply_takes : (len : ℕ) (bytes : List ℕ) (r : Reply) (rest : List ℕ) → IsBytes bytes → reply_at len bytes ≡ Ok (r, rest) → Takes bytes (word w32 (reply_code r)) rest × (is_answer r ≡ true)
unfolding reply_at answer_at
reply_takes len bytes r rest fits e =
    let a = bind_ok (number_at w32 0 most32 len bytes) _ _ e in
    let code = number_takes w32 wide32 0 most32 len bytes a.0.0 a.0.1 fits a.1 in
    let k = known_is (answer_at a.0.0) (at len bytes) a.0.1 r rest a.2 in
    let is : a.0.0 ≡ reply_code r = answer_code a.0.0 answers r k.0 in (
      subst (λ (t : List ℕ). Takes bytes (word w32 (reply_code r)) t) k.1 (subst (λ (n : ℕ). Takes bytes (word w32 n) a.0.1) is code.0),
      subst (λ (o : Option Reply). IfSome o (λ r. is_answer r ≡ true)) k.0 (known_answers a.0.0),
    )

-- ---- a seat

record IsTaken (least : ℕ) (bytes : List ℕ) (t : Taken) (rest : List ℕ) : Type 0 where
  low : least ≤ t.client
  high : t.client ≤ 63
  number : (1 ≤ t.number) × (t.number ≤ 65536)
  text : Takes bytes (seat_text t.client (record { number = t.number; refused = refusal_of t.reply })) rest

seat_takes : (len least : ℕ) (bytes : List ℕ) (t : Taken) (rest : List ℕ) → IsBytes bytes → seat_at len least bytes ≡ Ok (t, rest) → IsTaken least bytes t rest
unfolding seat_at seat_text
seat_takes len least bytes t rest fits e =
    let a = bind_ok (number_at w32 least 63 len bytes) _ _ e in
    let b = bind_ok (number_at w32 1 65536 len a.0.1) _ _ a.2 in
    let c = bind_ok (reply_at len b.0.1) _ _ b.2 in
    let d = bind_ok (zeros_at len 4 c.0.1) _ _ c.2 in
    let client = number_takes w32 wide32 least 63 len bytes a.0.0 a.0.1 fits a.1 in
    let number = number_takes w32 wide32 1 65536 len a.0.1 b.0.0 b.0.1 client.0.fits b.1 in
    let reply = reply_takes len b.0.1 c.0.0 c.0.1 number.0.fits c.1 in
    let space = zeros_take len 4 c.0.1 d.0 reply.0.fits d.1 in
    let kept : Takes b.0.1 (word w32 (reply_code (answer_of (refusal_of c.0.0)))) c.0.1 = subst (λ (r : Reply). Takes b.0.1 (word w32 (reply_code r)) c.0.1) (sym (kept_answer c.0.0 reply.1)) reply.0 in
    let which = number_is w32 least 63 len bytes a.0.0 a.0.1 a.1 in
    let what = number_is w32 1 65536 len a.0.1 b.0.0 b.0.1 b.1 in
    let made : Taken = record { client = a.0.0; number = b.0.0; reply = c.0.0 } in
    let is : IsTaken least bytes made d.0 = record {
      low = which.at_least;
      high = which.at_most;
      number = (what.at_least, what.at_most);
      text = Takes-then client.0 (Takes-then number.0 (Takes-then kept space));
    } in
    subst (λ (p : Taken × List ℕ). IsTaken least bytes p.0 p.1) (ok_is (made, d.0) (t, rest) d.2) is

-- ---- seats without an answer

nones : ℕ → List (Option Seat)
nones zero = []
nones (suc n) = None ∷ nones n

nones_are : (n : ℕ) → nones n ≡ replicate n None
unfolding nones
nones_are zero = refl
nones_are (suc n) = ap (λ (xs : List (Option Seat)). None ∷ xs) (nones_are n)

nones_length : (n : ℕ) → length (nones n) ≡ n
unfolding nones
nones_length zero = refl
nones_length (suc n) = ap suc (nones_length n)

split : (k j n : ℕ) → n ≡ k + 1 + j → nones n ≡ nones k ++ None ∷ nones j
unfolding nones
split zero j n e = let is : n ≡ suc j = omega (arith, e) in ap nones is
split (suc i) j n e = let is : n ≡ suc (i + 1 + j) = omega (arith, e) in ap nones is ∙ ap (λ (xs : List (Option Seat)). None ∷ xs) (split i j (i + 1 + j) refl)

none_text : (client n : ℕ) → seats_from client (nones n) ≡ []
unfolding nones
none_text client zero = refl
none_text client (suc n) = none_text (client + 1) n

none_count : (n : ℕ) → taken_count (nones n) ≡ 0
unfolding nones
none_count zero = refl
none_count (suc n) = let k = none_count n in omega (arith, k)

none_fit : (n : ℕ) (xs : List (Option Seat)) → AllByRecursion FitsSeat xs → AllByRecursion FitsSeat (nones n ++ xs)
unfolding nones
none_fit zero xs a = a
none_fit (suc n) xs a = (tt, none_fit n xs a)

only_fit : (n : ℕ) → AllByRecursion FitsSeat (nones n)
unfolding nones
only_fit zero = tt
only_fit (suc n) = (tt, only_fit n)

skipped_text : (client n : ℕ) (xs : List (Option Seat)) → seats_from client (nones n ++ xs) ≡ seats_from (client + n) xs
unfolding nones
skipped_text client zero xs = let is : client ≡ client + 0 = omega arith in ap (λ (c : ℕ). seats_from c xs) is
skipped_text client (suc n) xs = let is : client + 1 + n ≡ client + suc n = omega arith in skipped_text (client + 1) n xs ∙ ap (λ (c : ℕ). seats_from c xs) is

skipped_count : (n : ℕ) (xs : List (Option Seat)) → taken_count (nones n ++ xs) ≡ taken_count xs
unfolding nones
skipped_count zero xs = refl
skipped_count (suc n) xs = let k = skipped_count n xs in omega (arith, k)

placed : (before blanks : List (Option Seat)) (client number : ℕ) (reply : Reply) → length before ≡ client
    → put_seat (before ++ None ∷ blanks) client number reply ≡ before ++ Some (record { number = number; refused = refusal_of reply }) ∷ blanks
placed before blanks client number reply here =
    let seats = before ++ None ∷ blanks in
    let new : Seat = record { number = number; refused = refusal_of reply } in
    ap (λ (c : ℕ). put_seat seats c number reply) (sym here)
    ∙ ap (λ (o : Option Seat). if has_later o number then seats else slice_set seats (length before) (Some new)) (get_or-append_seam before None blanks None)
    ∙ set-append_seam before None blanks (Some new)

-- ---- seats that are read behind others

record Tail (n least left : ℕ) (before : List (Option Seat)) (bytes : List ℕ) (seats : List (Option Seat)) (rest : List ℕ) : Type 0 where
  others : List (Option Seat)
  are : seats ≡ before ++ others
  many : length others ≡ left
  count : taken_count others ≡ n
  each : AllByRecursion FitsSeat others
  text : Takes bytes (seats_from least others) rest

none_takes : (bytes text : List ℕ) → IsBytes bytes → text ≡ [] → Takes bytes text bytes
none_takes bytes text fits e = subst (λ (t : List ℕ). Takes bytes t bytes) (sym e) (record { parts = refl; fits = fits })

taken_takes : (len n least left : ℕ) (before : List (Option Seat)) (bytes : List ℕ) (seats : List (Option Seat)) (rest : List ℕ) → IsBytes bytes → length before ≡ least → least + left ≡ 64
    → taken_at len n least (before ++ nones left) bytes ≡ Ok (seats, rest) → Tail n least left before bytes seats rest
unfolding taken_at
taken_takes len zero least left before bytes seats rest fits here room e =
    let is : Tail zero least left before bytes (before ++ nones left) bytes = record {
      others = nones left;
      are = refl;
      many = nones_length left;
      count = none_count left;
      each = only_fit left;
      text = none_takes bytes (seats_from least (nones left)) fits (none_text least left);
    } in
    subst (λ (p : List (Option Seat) × List ℕ). Tail zero least left before bytes p.0 p.1) (ok_is (before ++ nones left, bytes) (seats, rest) e) is
taken_takes len (suc m) least left before bytes seats rest fits here room e =
    let a = bind_ok (seat_at len least bytes) _ _ e in
    let t = a.0.0 in
    let s = seat_takes len least bytes t a.0.1 fits a.1 in
    let low = s.low in
    let high = s.high in
    let k = t.client - least in
    let j = 63 - t.client in
    let new : Seat = record { number = t.number; refused = refusal_of t.reply } in
    let first = before ++ nones k in
    let long = nones_length k in
    let there : length first ≡ t.client = omega (arith, length-append before (nones k), long, here, low) in
    let parts : before ++ nones left ≡ first ++ None ∷ nones j = ap (λ (xs : List (Option Seat)). before ++ xs) (split k j left (omega (arith, room, low, high))) ∙ sym (append_assoc before (nones k) (None ∷ nones j)) in
    let put : put_seat (before ++ nones left) t.client t.number t.reply ≡ (first ++ Some new ∷ []) ++ nones j =
    ap (λ (xs : List (Option Seat)). put_seat xs t.client t.number t.reply) parts ∙ placed first (nones j) t.client t.number t.reply there ∙ sym (append_assoc first (Some new ∷ []) (nones j)) in
    let next = subst (λ (xs : List (Option Seat)). taken_at len m (t.client + 1) xs a.0.1 ≡ Ok (seats, rest)) put a.2 in
    let ih = taken_takes len m (t.client + 1) j (first ++ Some new ∷ []) a.0.1 seats rest s.text.fits (omega (arith, length-append first (Some new ∷ []), there)) (omega (arith, high)) next in
    let many = ih.many in
    let count = ih.count in
    let skipped = skipped_count k (Some new ∷ ih.others) in
    let which : least + k ≡ t.client = omega (arith, low) in
    let text : seats_from least (nones k ++ Some new ∷ ih.others) ≡ seat_text t.client new ++ seats_from (t.client + 1) ih.others =
    skipped_text least k (Some new ∷ ih.others) ∙ ap (λ (c : ℕ). seats_from c (Some new ∷ ih.others)) which in
    record {
      others = nones k ++ Some new ∷ ih.others;
      are = ih.are ∙ append_assoc first (Some new ∷ []) ih.others ∙ append_assoc before (nones k) (Some new ∷ ih.others);
      many = omega (arith, length-append (nones k) (Some new ∷ ih.others), long, many, room, low, high);
      count = omega (arith, skipped, count);
      each = none_fit k (Some new ∷ ih.others) (s.number, ih.each);
      text = subst (λ (x : List ℕ). Takes bytes x rest) (sym text) (Takes-then s.text ih.text);
    }

record AreSeats (bytes : List ℕ) (seats : List (Option Seat)) (rest : List ℕ) : Type 0 where
  many : length seats ≡ 64
  each : AllByRecursion FitsSeat seats
  text : Takes bytes (seats_text seats) rest

seats_take : (len : ℕ) (bytes : List ℕ) (seats : List (Option Seat)) (rest : List ℕ) → IsBytes bytes → seats_at len bytes ≡ Ok (seats, rest) → AreSeats bytes seats rest
unfolding seats_at seats_text
seats_take len bytes seats rest fits e =
    let a = bind_ok (number_at w32 0 most32 len bytes) _ _ e in
    let b = bind_ok (zeros_at len 4 a.0.1) _ _ a.2 in
    let count = number_takes w32 wide32 0 most32 len bytes a.0.0 a.0.1 fits a.1 in
    let space = zeros_take len 4 a.0.1 b.0 count.0.fits b.1 in
    let next = subst (λ (xs : List (Option Seat)). taken_at len a.0.0 0 xs b.0 ≡ Ok (seats, rest)) (sym (nones_are 64)) b.2 in
    let tail = taken_takes len a.0.0 0 64 [] b.0 seats rest space.fits refl (omega arith) next in
    let is : AreSeats bytes tail.others rest = record {
      many = tail.many;
      each = tail.each;
      text = Takes-then (subst (λ (n : ℕ). Takes bytes (word w32 n) a.0.1) (sym tail.count) count.0) (Takes-then space tail.text);
    } in
    subst (λ (xs : List (Option Seat)). AreSeats bytes xs rest) (sym tail.are) is

-- ---- the front

between : (low high n : ℕ) → low ≤ n → n ≤ high → low ≡ high → n ≡ low
between low high n l h e = omega (arith, l, h, e)

record AreNames (targets index : ℕ) (bytes : List ℕ) (epoch : ℕ) (rest : List ℕ) : Type 0 where
  range : (1 ≤ epoch) × (epoch ≤ last_epoch)
  text : Takes bytes (word w32 0x444e4531 ++ (word w32 1 ++ (word w32 epoch ++ (word w32 index ++ (word w32 targets ++ zeros 4))))) rest

fixed : (n len : ℕ) (bytes : List ℕ) (m : ℕ) (rest : List ℕ) → IsBytes bytes → number_at w32 n n len bytes ≡ Ok (m, rest) → Takes bytes (word w32 n) rest
fixed n len bytes m rest fits e =
    let t = number_takes w32 wide32 n n len bytes m rest fits e in
    let i = number_is w32 n n len bytes m rest e in
    subst (λ (k : ℕ). Takes bytes (word w32 k) rest) (between n n m i.at_least i.at_most refl) t.0

names_take : (targets index len : ℕ) (bytes : List ℕ) (epoch : ℕ) (rest : List ℕ) → IsBytes bytes → names_at targets index len bytes ≡ Ok (epoch, rest) → AreNames targets index bytes epoch rest
unfolding names_at
names_take targets index len bytes epoch rest fits e =
    let a = bind_ok (number_at w32 0x444e4531 0x444e4531 len bytes) _ _ e in
    let b = bind_ok (number_at w32 1 1 len a.0.1) _ _ a.2 in
    let c = bind_ok (number_at w32 1 last_epoch len b.0.1) _ _ b.2 in
    let d = bind_ok (number_at w32 index index len c.0.1) _ _ c.2 in
    let f = bind_ok (number_at w32 targets targets len d.0.1) _ _ d.2 in
    let g = bind_ok (zeros_at len 4 f.0.1) _ _ f.2 in
    let magic = fixed 0x444e4531 len bytes a.0.0 a.0.1 fits a.1 in
    let format = fixed 1 len a.0.1 b.0.0 b.0.1 magic.fits b.1 in
    let which = number_takes w32 wide32 1 last_epoch len b.0.1 c.0.0 c.0.1 format.fits c.1 in
    let target = fixed index len c.0.1 d.0.0 d.0.1 which.0.fits d.1 in
    let count = fixed targets len d.0.1 f.0.0 f.0.1 target.fits f.1 in
    let space = zeros_take len 4 f.0.1 g.0 count.fits g.1 in
    let range = number_is w32 1 last_epoch len b.0.1 c.0.0 c.0.1 c.1 in
    let is : AreNames targets index bytes c.0.0 g.0 = record {
      range = (range.at_least, range.at_most);
      text = Takes-then magic (Takes-then format (Takes-then which.0 (Takes-then target (Takes-then count space))));
    } in
    subst (λ (p : ℕ × List ℕ). AreNames targets index bytes p.0 p.1) (ok_is (c.0.0, g.0) (epoch, rest) g.2) is

pub record IsRead (targets index : ℕ) (bytes : List ℕ) (f : Front) (rest : List ℕ) : Type 0 where
  pub fits : FitsFront f
  pub cluster : f.cluster ≡ targets
  pub index_is : f.index ≡ index
  pub parts : bytes ≡ front_text f ++ rest

pub front_takes : (targets index len : ℕ) (bytes : List ℕ) (f : Front) (rest : List ℕ) → IsBytes bytes → targets < 256 → index < 256 → front_in targets index len bytes ≡ Ok (f, rest) → IsRead targets index bytes f rest
unfolding front_in front_text
front_takes targets index len bytes f rest fits few small e =
    let a = bind_ok (names_at targets index len bytes) _ _ e in
    let b = bind_ok (number_at w64 0 most len a.0.1) _ _ a.2 in
    let c = bind_ok (number_at w64 0 most len b.0.1) _ _ b.2 in
    let d = bind_ok (number_at w64 1 most len c.0.1) _ _ c.2 in
    let g = bind_ok (number_at w64 0 most len d.0.1) _ _ d.2 in
    let h = bind_ok (seats_at len g.0.1) _ _ g.2 in
    let names = names_take targets index len bytes a.0.0 a.0.1 fits a.1 in
    let transno = number_takes w64 wide64 0 most len a.0.1 b.0.0 b.0.1 names.text.fits b.1 in
    let clock = number_takes w64 wide64 0 most len b.0.1 c.0.0 c.0.1 transno.0.fits c.1 in
    let batch = number_takes w64 wide64 1 most len c.0.1 d.0.0 d.0.1 clock.0.fits d.1 in
    let mark = number_takes w64 wide64 0 most len d.0.1 g.0.0 g.0.1 batch.0.fits g.1 in
    let seats = seats_take len g.0.1 h.0.0 h.0.1 mark.0.fits h.1 in
    let batch-is = number_is w64 1 most len c.0.1 d.0.0 d.0.1 d.1 in
    let made : Front = record { cluster = targets; index = index; epoch = a.0.0; transno = b.0.0; clock = c.0.0; next_batch = d.0.0; mark = g.0.0; seats = h.0.0 } in
    let fit : FitsFront made = record {
      epoch_set = names.range.0;
      epoch = names.range.1;
      index = small;
      targets = few;
      transno = (number_is w64 0 most len a.0.1 b.0.0 b.0.1 b.1).at_most;
      clock = (number_is w64 0 most len b.0.1 c.0.0 c.0.1 c.1).at_most;
      batch_set = batch-is.at_least;
      batch = batch-is.at_most;
      mark = (number_is w64 0 most len d.0.1 g.0.0 g.0.1 g.1).at_most;
      seats = seats.many;
      each = seats.each;
    } in
    let numbers : Takes a.0.1 (numbers_text made) g.0.1 = Takes-then transno.0 (Takes-then clock.0 (Takes-then batch.0 mark.0)) in
    let all = Takes-then names.text (Takes-then numbers seats.text) in
    let is : IsRead targets index bytes made h.0.1 = record { fits = fit; cluster = refl; index_is = refl; parts = all.parts } in
    subst (λ (p : Front × List ℕ). IsRead targets index bytes p.0 p.1) (ok_is (made, h.0.1) (f, rest) h.2) is

pub front_only : (targets index : ℕ) (bytes : List ℕ) (f : Front) (rest : List ℕ) → IsBytes bytes → targets < 256 → index < 256 → front_in targets index (length bytes) bytes ≡ Ok (f, rest)
    → FitsFront f × (f.cluster ≡ targets) × (f.index ≡ index) × (bytes ≡ front_text f ++ rest)
front_only targets index bytes f rest fits few small e =
    let r = front_takes targets index (length bytes) bytes f rest fits few small e in
    (r.fits, r.cluster, r.index_is, r.parts)
