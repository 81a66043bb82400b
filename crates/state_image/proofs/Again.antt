-- What was written is read again.
use Rattle.std.proofs.Common.{◌≡◌, ℕ, ◌+◌, ◌≤◌, List, [], ◌∷◌, ◌++◌, length, replicate, Option, Some, None, if◌then◌else◌, slice_set, Ok, refl, ap, ◌∙◌, subst, append_assoc, arith, length-append}
use Rattle.std.specs.Int.{w32, w64}
use Rattle.std.specs.List.{AllByRecursion}
use Rattle.std.proofs.Math.Seq.{set-append_seam, get_or-append_seam}
use Rattle.byte_grammar.specs.Numbers.{word, zeros}
use Rattle.byte_grammar.proofs.Bytes.{wide32, wide64}
use Rattle.tree_model.specs.declared.errno.Errno.{Errno}
use Rattle.reply_cache.specs.declared.seats.Seat.{Seat}
use Rattle.reply_cache.specs.Seats.{no_seats, answer_of, refusal_of, has_later, put_seat}
use Rattle.object_store.specs.ImageReading.{most32}
use Rattle.object_store.proofs.ImageFields.{number_again, zeros_again}
use Rattle.update_record.specs.Spelling.{reply_code}
use Rattle.state_image.specs.declared.front.Front.{Front}
use Rattle.state_image.specs.FrontText.{names_text, numbers_text, seat_text, seats_from, taken_count, seats_text, front_text, last_epoch, most, FitsSeat, FitsFront}
use Rattle.state_image.specs.FrontReading.{names_at, reply_at, seat_at, taken_at, seats_at, front_in}
use Rattle.state_image.proofs.Answers.{code_small, answer_again, refused_again}
use Rattle.state_image.proofs.Lengths.{count_most}
use Rattle.state_image.proofs.Loops.{one_more}

reply_again : (len : ℕ) (o : Option Errno) (rest : List ℕ) → reply_at len (word w32 (reply_code (answer_of o)) ++ rest) ≡ Ok (answer_of o, rest)
unfolding reply_at
reply_again len o rest =
    let small = code_small o in
    rw (
      number_again w32 wide32 0 most32 len (reply_code (answer_of o)) rest (omega arith) (omega (arith, small)) (omega (arith, small)),
      answer_again o,
    ) refl

seat_again : (len least client : ℕ) (s : Seat) (rest : List ℕ) → least ≤ client → client ≤ 63 → FitsSeat (Some s) → seat_at len least (seat_text client s ++ rest) ≡ Ok (record { client = client; number = s.number; reply = answer_of s.refused }, rest)
unfolding seat_at seat_text
seat_again len least client s rest low high fits =
    let r1 = zeros 4 ++ rest in
    let r2 = word w32 (reply_code (answer_of s.refused)) ++ r1 in
    let r3 = word w32 s.number ++ r2 in
    let number = fits.1 in
    let text : (word w32 client ++ (word w32 s.number ++ (word w32 (reply_code (answer_of s.refused)) ++ zeros 4))) ++ rest ≡ word w32 client ++ r3 = simp append_assoc in
    rw (
      text,
      number_again w32 wide32 least 63 len client r3 low high (omega (arith, high)),
      number_again w32 wide32 1 65536 len s.number r2 fits.0 number (omega (arith, number)),
      reply_again len s.refused r1,
      zeros_again len 4 rest,
    ) refl

-- seats without an answer, as many as these
blank : List (Option Seat) → List (Option Seat)
blank [] = []
blank (s ∷ ss) = None ∷ blank ss

blank_is : (ss : List (Option Seat)) → blank ss ≡ replicate (length ss) None
unfolding blank
blank_is [] = refl
blank_is (s ∷ ss) = ap (λ (xs : List (Option Seat)). None ∷ xs) (blank_is ss)

-- a seat that is put into the first place without an answer
placed : (before blanks : List (Option Seat)) (s : Seat) → put_seat (before ++ None ∷ blanks) (length before) s.number (answer_of s.refused) ≡ before ++ Some s ∷ blanks
placed before blanks s =
    let seats = before ++ None ∷ blanks in
    let new : Seat = record { number = s.number; refused = refusal_of (answer_of s.refused) } in
    ap (λ (o : Option Seat). if has_later o s.number then seats else slice_set seats (length before) (Some new)) (get_or-append_seam before None blanks None)
    ∙ set-append_seam before None blanks (Some new)
    ∙ ap (λ (r : Option Errno). before ++ Some (record { number = s.number; refused = r }) ∷ blanks) (refused_again s.refused)

module _ (len : ℕ) (rest : List ℕ) where
  -- the place behind a seat
  moved : (ss : List (Option Seat)) (least : ℕ) (before : List (Option Seat)) (x : Option Seat)
      → taken_at len (taken_count ss) least ((before ++ x ∷ []) ++ blank ss) (seats_from (length (before ++ x ∷ [])) ss ++ rest) ≡ Ok ((before ++ x ∷ []) ++ ss, rest)
      → taken_at len (taken_count ss) least (before ++ x ∷ blank ss) (seats_from (length before + 1) ss ++ rest) ≡ Ok (before ++ x ∷ ss, rest)
  moved ss least before x h =
      let a = subst (λ (xs : List (Option Seat)). taken_at len (taken_count ss) least xs (seats_from (length (before ++ x ∷ [])) ss ++ rest) ≡ Ok ((before ++ x ∷ []) ++ ss, rest)) (append_assoc before (x ∷ []) (blank ss)) h in
      let b = subst (λ (xs : List (Option Seat)). taken_at len (taken_count ss) least (before ++ x ∷ blank ss) (seats_from (length (before ++ x ∷ [])) ss ++ rest) ≡ Ok (xs, rest)) (append_assoc before (x ∷ []) ss) a in
      subst (λ (n : ℕ). taken_at len (taken_count ss) least (before ++ x ∷ blank ss) (seats_from n ss ++ rest) ≡ Ok (before ++ x ∷ ss, rest)) (length-append before (x ∷ [])) b

  -- the seats from a client on, behind those that are read
  taken_again : (ss : List (Option Seat)) (least : ℕ) (before : List (Option Seat)) → least ≤ length before → length before + length ss ≤ 64 → AllByRecursion FitsSeat ss
      → taken_at len (taken_count ss) least (before ++ blank ss) (seats_from (length before) ss ++ rest) ≡ Ok (before ++ ss, rest)
  unfolding taken_at blank
  taken_again [] least before low room fits = refl
  taken_again (None ∷ ss) least before low room fits =
      let long = length-append before (None ∷ []) in
      let none : 0 + taken_count ss ≡ taken_count ss = omega arith in
      ap (λ (n : ℕ). taken_at len n least (before ++ None ∷ blank ss) (seats_from (length before + 1) ss ++ rest)) none
      ∙ moved ss least before None (taken_again ss least (before ++ None ∷ []) (omega (arith, low, long)) (omega (arith, room, long)) fits.1)
  taken_again (Some s ∷ ss) least before low room fits =
      let long = length-append before (Some s ∷ []) in
      let text = append_assoc (seat_text (length before) s) (seats_from (length before + 1) ss) rest in
      let one = seat_again len least (length before) s (seats_from (length before + 1) ss ++ rest) low (omega (arith, room)) fits.0 in
      ap (λ (bytes : List ℕ). taken_at len (1 + taken_count ss) least (before ++ None ∷ blank ss) bytes) text
      ∙ one_more len (1 + taken_count ss) (taken_count ss) least (before ++ None ∷ blank ss) (seat_text (length before) s ++ (seats_from (length before + 1) ss ++ rest)) (record { client = length before; number = s.number; reply = answer_of s.refused }) (seats_from (length before + 1) ss ++ rest) (omega arith) one
      ∙ ap (λ (seats : List (Option Seat)). taken_at len (taken_count ss) (length before + 1) seats (seats_from (length before + 1) ss ++ rest)) (placed before (blank ss) s)
      ∙ moved ss (length before + 1) before (Some s) (taken_again ss (length before + 1) (before ++ Some s ∷ []) (omega (arith, long)) (omega (arith, room, long)) fits.1)

  seats_again : (ss : List (Option Seat)) → length ss ≡ 64 → AllByRecursion FitsSeat ss → seats_at len (seats_text ss ++ rest) ≡ Ok (ss, rest)
  unfolding seats_at seats_text
  seats_again ss many fits =
      let r1 = seats_from 0 ss ++ rest in
      let few = count_most ss in
      let all = taken_again ss 0 [] (omega arith) (omega (arith, many)) fits in
      let blanks : blank ss ≡ no_seats = blank_is ss ∙ ap (λ (n : ℕ). replicate n None) many in
      let text : (word w32 (taken_count ss) ++ (zeros 4 ++ seats_from 0 ss)) ++ rest ≡ word w32 (taken_count ss) ++ (zeros 4 ++ r1) = simp append_assoc in
      rw (
        text,
        number_again w32 wide32 0 most32 len (taken_count ss) (zeros 4 ++ r1) (omega arith) (omega (arith, few, many)) (omega (arith, few, many)),
        zeros_again len 4 r1,
      ) (subst (λ (seats : List (Option Seat)). taken_at len (taken_count ss) 0 seats r1 ≡ Ok (ss, rest)) blanks all)

  names_again : (f : Front) → FitsFront f → names_at f.cluster f.index len (names_text f ++ rest) ≡ Ok (f.epoch, rest)
  unfolding names_at
  names_again f fits =
      let r1 = zeros 4 ++ rest in
      let r2 = word w32 f.cluster ++ r1 in
      let r3 = word w32 f.index ++ r2 in
      let r4 = word w32 f.epoch ++ r3 in
      let r5 = word w32 1 ++ r4 in
      let epoch = fits.epoch in
      let index = fits.index in
      let targets = fits.targets in
      let text : names_text f ++ rest ≡ word w32 0x444e4531 ++ r5 = simp append_assoc in
      rw (
        text,
        number_again w32 wide32 0x444e4531 0x444e4531 len 0x444e4531 r5 (omega arith) (omega arith) (omega arith),
        number_again w32 wide32 1 1 len 1 r4 (omega arith) (omega arith) (omega arith),
        number_again w32 wide32 1 last_epoch len f.epoch r3 fits.epoch_set epoch (omega (arith, epoch)),
        number_again w32 wide32 f.index f.index len f.index r2 (omega arith) (omega arith) (omega (arith, index)),
        number_again w32 wide32 f.cluster f.cluster len f.cluster r1 (omega arith) (omega arith) (omega (arith, targets)),
        zeros_again len 4 rest,
      ) refl

pub front_read : (len : ℕ) (f : Front) (rest : List ℕ) → FitsFront f → front_in f.cluster f.index len (front_text f ++ rest) ≡ Ok (f, rest)
unfolding front_in front_text
front_read len f rest fits =
    let r1 = seats_text f.seats ++ rest in
    let r2 = word w64 f.mark ++ r1 in
    let r3 = word w64 f.next_batch ++ r2 in
    let r4 = word w64 f.clock ++ r3 in
    let r5 = word w64 f.transno ++ r4 in
    let transno = fits.transno in
    let clock = fits.clock in
    let batch = fits.batch in
    let mark = fits.mark in
    let behind : (numbers_text f ++ seats_text f.seats) ++ rest ≡ r5 = simp append_assoc in
    let text : (names_text f ++ (numbers_text f ++ seats_text f.seats)) ++ rest ≡ names_text f ++ r5 = append_assoc (names_text f) (numbers_text f ++ seats_text f.seats) rest ∙ ap (λ (t : List ℕ). names_text f ++ t) behind in
    rw (
      text,
      names_again len r5 f fits,
      number_again w64 wide64 0 most len f.transno r4 (omega arith) transno (omega (arith, transno)),
      number_again w64 wide64 0 most len f.clock r3 (omega arith) clock (omega (arith, clock)),
      number_again w64 wide64 1 most len f.next_batch r2 fits.batch_set batch (omega (arith, batch)),
      number_again w64 wide64 0 most len f.mark r1 (omega arith) mark (omega (arith, mark)),
      seats_again len rest f.seats fits.seats fits.each,
    ) refl

pub front_again : (f : Front) (rest : List ℕ) → FitsFront f → front_in f.cluster f.index (length (front_text f ++ rest)) (front_text f ++ rest) ≡ Ok (f, rest)
front_again f rest fits = front_read (length (front_text f ++ rest)) f rest fits
