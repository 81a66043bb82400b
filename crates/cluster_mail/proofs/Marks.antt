-- What a new message and a mark make of the messages that are kept, and where the least one that waits stands.
use Rattle.std.proofs.Common.{◌≡◌, ◌≤◌, ◌<◌, ◌^◌, ℕ, zero, suc, ◌+◌, ◌-◌, Bool, true, false, if◌then◌else◌, List, [], ◌∷◌, ◌++◌, map, take, ap₂, not, ◌&&◌, length, set, get_or, sum_by, unwrap_or, All, Option, Some, None, refl, sym, ap, subst, ◌∙◌, arith, length-append, length-set, inl, inr}
use Rattle.std.proofs.lemmas.Bool.{cases_lt}
use Rattle.std.proofs.lemmas.List.{length-map, map-append, map-set, get_or-map, take-append-le, take-set-le}
use Rattle.std.proofs.Math.Seq.{take-set-lt}
use Rattle.std.proofs.lemmas.List.Elements.{All-push, All-set, All-get_or, All-more}
use Rattle.std.proofs.lemmas.List.Sums.{sum_by-append, sum_by-set}
use Rattle.update_record.specs.declared.message.Message.{Message}
use Rattle.update_record.specs.Messages.{message_text, FitsMessage}
use Rattle.update_record.specs.MessageValues.{message_value}
use Rattle.cluster_mail.specs.declared.mail.Kept.{Kept}
use Rattle.cluster_mail.specs.Mail.{Sent, fresh, no_message, waits, next_of, size_of}
use Rattle.cluster_mail.specs.Kept.{spelled, seen, IsSpelled, AreKept}

-- the bytes of a message are seen as the message
pub spelled_is : (bytes : List ℕ) (m : Message) → bytes ≡ message_text m → message_value (message_text m) ≡ Some m → spelled bytes ≡ m
spelled_is bytes m e v = ap (λ (b : List ℕ). unwrap_or (message_value b) no_message) e ∙ ap (λ (o : Option Message). unwrap_or o no_message) v

pub is_spelled : (k : Kept) (m : Message) → FitsMessage m → k.bytes ≡ message_text m → spelled k.bytes ≡ m → IsSpelled k
is_spelled k m fits text is = record { fits = subst FitsMessage (sym is) fits; text = text ∙ ap message_text (sym is) }

abbrev pub IsPast : Sent → Type 0
IsPast s = waits s ≡ false

pub kept_push : (items : List Kept) (first bytes : ℕ) (k : Kept) → AreKept items first bytes → IsSpelled k → length items < 4294967295 → AreKept (items ++ k ∷ []) first (bytes + length k.bytes)
kept_push items first bytes k h s room =
    let begins = h.begins in
    let ends = length-append items (k ∷ []) in
    let maps : map seen (items ++ k ∷ []) ≡ map seen items ++ seen k ∷ [] = map-append seen items (k ∷ []) in
    let same : take first (map seen items ++ seen k ∷ []) ≡ take first (map seen items) = take-append-le first (map seen items) (seen k ∷ []) (subst (λ (n : ℕ). first ≤ n) (sym (length-map items seen)) begins) in
    let f = λ (x : Sent). length (message_text x.message) in
    let sums = sum_by-append f (map seen items) (seen k ∷ []) in
    let one : sum_by f (seen k ∷ []) ≡ length (message_text (spelled k.bytes)) = omega arith in
    record {
      all = All-push IsSpelled items k h.all s;
      few = omega arith;
      begins = omega arith;
      past = subst (All IsPast) (sym (ap (take first) maps ∙ same)) h.past;
      size = omega (arith, h.size, ap length s.text, ap size_of maps, sums, one);
    }

past_set : (first : ℕ) (xs : List Sent) (i : ℕ) (x : Sent) → IsPast x → All IsPast (take first xs) → All IsPast (take first (set xs i x))
past_set first xs i x p h =
    elim (cases_lt i first) as (λ _. All IsPast (take first (set xs i x))) [
      | inl lt ↦ subst (All IsPast) (sym (take-set-lt first xs i x lt)) (All-set IsPast (take first xs) i x p h)
      | inr le ↦ subst (All IsPast) (sym (take-set-le first xs i x le)) h
    ]

-- a mark leaves the bytes
pub kept_set : (items : List Kept) (first bytes i : ℕ) (d k : Kept) → AreKept items first bytes → i < length items → k.bytes ≡ (get_or items i d).bytes → IsPast (seen k) → AreKept (set items i k) first bytes
kept_set items first bytes i d k h lt same past =
    let begins = h.begins in
    let few = h.few in
    let long = length-set items i k in
    let maps : map seen (set items i k) ≡ set (map seen items) i (seen k) = map-set seen items i k in
    let f = λ (x : Sent). length (message_text x.message) in
    let old = get_or items i d in
    let there = All-get_or IsSpelled items i d lt h.all in
    let value : spelled old.bytes ≡ spelled k.bytes = ap spelled (sym same) in
    let sums = sum_by-set f (map seen items) i (seen k) (seen d) (subst (λ (n : ℕ). i < n) (sym (length-map items seen)) lt) in
    let at : get_or (map seen items) i (seen d) ≡ seen old = get_or-map seen items i d (seen d) lt in
    let one : f (get_or (map seen items) i (seen d)) ≡ f (seen k) = ap f at ∙ ap (λ (m : Message). length (message_text m)) value in
    record {
      all = All-set IsSpelled items i k (record { fits = subst FitsMessage value there.fits; text = same ∙ there.text ∙ ap message_text value }) h.all;
      few = omega arith;
      begins = omega arith;
      past = subst (All IsPast) (sym (ap (take first) maps)) (past_set first (map seen items) i (seen k) past h.past);
      size = h.size ∙ sym (ap size_of maps ∙ omega (arith, sums, one));
    }

and_false : (b : Bool) → (b && false) ≡ false
and_false true = refl
and_false false = refl

pub kept_dropped : (items : List Kept) (first bytes i : ℕ) (r : Kept) → AreKept items first bytes → r ≡ get_or items i r → i < length items → AreKept (set items i (record { bytes = r.bytes; delivered = r.delivered; dropped = true })) first bytes
kept_dropped items first bytes i r h is lt = kept_set items first bytes i r (record { bytes = r.bytes; delivered = r.delivered; dropped = true }) h lt (ap (λ (k : Kept). k.bytes) is) (and_false (not r.delivered))

pub kept_delivered : (items : List Kept) (first bytes i : ℕ) (r : Kept) → AreKept items first bytes → r ≡ get_or items i r → i < length items → AreKept (set items i (record { bytes = r.bytes; delivered = true; dropped = r.dropped })) first bytes
kept_delivered items first bytes i r h is lt = kept_set items first bytes i r (record { bytes = r.bytes; delivered = true; dropped = r.dropped }) h lt (ap (λ (k : Kept). k.bytes) is) refl

seen_at : (now : List Sent) (items : List Kept) (i : ℕ) (r : Kept) → now ≡ map seen items → r ≡ get_or items i r → i < length items → get_or now i (fresh no_message) ≡ seen r
seen_at now items i r e is lt = ap (λ (l : List Sent). get_or l i (fresh no_message)) e ∙ get_or-map seen items i r (fresh no_message) lt ∙ ap seen (sym is)

-- a mark is seen
pub seen_dropped : (now : List Sent) (items : List Kept) (i : ℕ) (r : Kept) → now ≡ map seen items → r ≡ get_or items i r → i < length items → map seen (set items i (record { bytes = r.bytes; delivered = r.delivered; dropped = true })) ≡ set now i (record (get_or now i (fresh no_message)) { dropped = true })
seen_dropped now items i r e is lt = map-set seen items i (record { bytes = r.bytes; delivered = r.delivered; dropped = true }) ∙ ap₂ (λ (l : List Sent) (s : Sent). set l i (record s { dropped = true })) (sym e) (sym (seen_at now items i r e is lt))

pub seen_delivered : (now : List Sent) (items : List Kept) (i : ℕ) (r : Kept) → now ≡ map seen items → r ≡ get_or items i r → i < length items → map seen (set items i (record { bytes = r.bytes; delivered = true; dropped = r.dropped })) ≡ set now i (record (get_or now i (fresh no_message)) { delivered = true })
seen_delivered now items i r e is lt = map-set seen items i (record { bytes = r.bytes; delivered = true; dropped = r.dropped }) ∙ ap₂ (λ (l : List Sent) (s : Sent). set l i (record s { delivered = true })) (sym e) (sym (seen_at now items i r e is lt))

-- so many are kept as are seen
pub as_many : (now : List Sent) (items : List Kept) (k : ℕ) → now ≡ map seen items → 1 ≤ k → k ≤ length now → k - 1 < length items
as_many now items k e low sent =
    let n : length now ≡ length items = ap length e ∙ length-map items seen in
    omega arith

pub kept_first : (items : List Kept) (first bytes n : ℕ) → AreKept items first bytes → n ≤ length items → All IsPast (take n (map seen items)) → AreKept items n bytes
kept_first items first bytes n h le p = record { all = h.all; few = h.few; begins = le; past = p; size = h.size }

past_head : (n : ℕ) (x : Sent) (xs : List Sent) → All IsPast (take (suc n) (x ∷ xs)) → IsPast x
past_head n x xs h = h 0 x (omega arith)

past_tail : (n : ℕ) (x : Sent) (xs : List Sent) → All IsPast (take (suc n) (x ∷ xs)) → All IsPast (take n xs)
past_tail n x xs h = λ k d lt. h (suc k) d (omega arith)

-- none waits
pub next_none : (k : ℕ) (xs : List Sent) → All IsPast (take (length xs) xs) → next_of k xs ≡ None
next_none k [] h = refl
next_none k (x ∷ xs) h = ap (λ (b : Bool). if b then Some k else next_of (k + 1) xs) (past_head (length xs) x xs h) ∙ next_none (k + 1) xs (past_tail (length xs) x xs h)

-- the one behind those that don't wait
pub next_some : (k n : ℕ) (xs : List Sent) (d : Sent) → All IsPast (take n xs) → n < length xs → waits (get_or xs n d) ≡ true → next_of k xs ≡ Some (k + n)
next_some k n [] d h lt w = absurd (omega arith)
next_some k zero (x ∷ xs) d h lt w = ap (λ (b : Bool). if b then Some k else next_of (k + 1) xs) w ∙ ap (λ (m : ℕ). Some m) (omega arith)
next_some k (suc n) (x ∷ xs) d h lt w =
    ap (λ (b : Bool). if b then Some k else next_of (k + 1) xs) (past_head n x xs h) ∙ next_some (k + 1) n xs d (past_tail n x xs h) (omega arith) w ∙ ap (λ (m : ℕ). Some m) (omega arith)

pub next_is_none : (n : ℕ) (xs : List Sent) → All IsPast (take n xs) → n ≡ length xs → None ≡ next_of 1 xs
next_is_none n xs h e = sym (next_none 1 xs (subst (λ (m : ℕ). All IsPast (take m xs)) e h))

pub next_is_some : (n : ℕ) (xs : List Sent) → All IsPast (take n xs) → n < length xs → waits (get_or xs ((n + 1) - 1) (fresh no_message)) ≡ true → Some (n + 1) ≡ next_of 1 xs
next_is_some n xs h lt w =
    let back : (n + 1) - 1 ≡ n = omega arith in
    let more : n + 1 ≡ 1 + n = omega arith in
    ap (λ (m : ℕ). Some m) more ∙ sym (next_some 1 n xs (fresh no_message) h lt (subst (λ (m : ℕ). waits (get_or xs m (fresh no_message)) ≡ true) back w))

-- one more that doesn't wait
pub past_more : (now : List Sent) (items : List Kept) (i : ℕ) (r : Kept) → now ≡ map seen items → r ≡ get_or items i r → i < length items → waits (seen r) ≡ false → All IsPast (take i now) → All IsPast (take (i + 1) now)
past_more now items i r e is lt w h =
    let n : length now ≡ length items = ap length e ∙ length-map items seen in
    All-more IsPast now i (fresh no_message) (omega arith) h (ap waits (seen_at now items i r e is lt) ∙ w)
