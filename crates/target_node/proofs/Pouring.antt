-- Pieces that are put one after another.
use Rattle.std.specs.Prelude.{IsTrue, IsSome, Option, OnOk, is_err, false, min}
use Rattle.std.proofs.Common.{◌≡◌, ◌≤◌, ◌<◌, ◌+◌, ℕ, List, [], ◌++◌, length, take, drop, Ok, Err, Result, Some, refl, sym, ap, subst, ◌∙◌, arith, inl, append_assoc, append-nil, length-append, length-take, length-drop}
use Rattle.std.proofs.lemmas.Bool.{false≢true}
use Rattle.std.proofs.Math.Seq.{take-add, take-append_seam, drop-drop}
use Rattle.std.proofs.lemmas.List.{length-take-le}
use Rattle.outside.specs.Causes.{Rose}
use Rattle.outside.specs.Disk.{Shown, Stays}
use Rattle.target_disk.specs.Draft.{Begun, put_len}
use Rattle.target_disk.specs.Tables.{Saved, image_most}
use Rattle.target_disk.specs.Store.{HasPut, Stands, OpensAs, OpensAsEither, CommitCauses, CommitFlags}
use Rattle.target_disk.specs.declared.store.CommitFault.{CommitFault}
use Rattle.target_disk.specs.declared.store.CommitFault.TheVariants as fault
use Rattle.object_store.specs.ImageText.{image_text}
use Rattle.state_image.specs.FrontText.{front_text}
use Rattle.state_image.specs.StateText.{log_part}
use Rattle.state_image.specs.StateText as spelled
use Rattle.target_state.specs.State.{TargetState}
use Rattle.target_state.specs.Image.{front_of, state_text}
use Rattle.target_node.specs.Putting.{Puts, Breaks, Pours}

pub stays_then : (x y z : Shown) → Stays x y → Stays y z → Stays x z
stays_then x y z a b = record { tells = b.tells ∙ a.tells; honest = b.honest ∙ a.honest; name = b.name ∙ a.name }

honest_then : (x y : Shown) → Stays x y → IsTrue x.honest → IsTrue y.honest
honest_then x y a h = subst IsTrue (sym a.honest) h

pub puts_then : (a b : List ℕ) (x y z : Shown) (o p q : Option Begun) → Puts a x y o p → Puts b y z p q → Puts (a ++ b) x z o q
puts_then a b x y z o p q one two = record {
  stays = stays_then x y z one.stays two.stays;
  later = omega (arith, one.later, two.later);
  flag = λ h. two.flag (honest_then x y one.stays h) ∙ one.flag h;
  begun = two.begun;
  grows = omega (arith, one.grows, two.grows, length-append a b);
  stands = λ s here. two.stands s (one.stands s here);
  puts = λ bytes h here. subst (λ l. HasPut z q l) (append_assoc bytes a b) (two.puts (bytes ++ a) (honest_then x y one.stays h) (one.puts bytes h here));
}

rose_later : (x y z : ℕ) → x ≤ y → Rose y z → Rose x z
rose_later x y z le rose = omega (arith, le, rose)

pub breaks_then : (a : List ℕ) (x y z : Shown) (o p : Option Begun) → Puts a x y o p → Breaks y z → Breaks x z
breaks_then a x y z o p one two = record {
  stays = stays_then x y z one.stays two.stays;
  later = omega (arith, one.later, two.later);
  rose = rose_later x.faults y.faults z.faults one.later two.rose;
  flag = λ h. two.flag (honest_then x y one.stays h);
  opens = λ s here. two.opens s (one.stands s here);
}

pub puts_none : (x : Shown) (o : Option Begun) → IsSome o → Puts [] x x o o
puts_none x o begun = record {
  stays = record { tells = refl; honest = refl; name = refl };
  later = omega arith;
  flag = λ h. refl;
  begun = begun;
  grows = omega arith;
  stands = λ s here. here;
  puts = λ bytes h here. subst (λ l. HasPut x o l) (sym (append-nil bytes)) here;
}

-- ---- pieces of a text

pub is_some : (p : Option Begun) (b : Begun) → p ≡ Some b → IsSome p
is_some p b is = subst (λ (o : Option Begun). IsSome o) (sym is) refl

-- ---- a call of the store that failed

pub breaks : (size : ℕ) (x y : Shown) (f : CommitFault) → f ≡ fault.Disk → Stays x y → x.faults ≤ y.faults → CommitCauses {T = Unit {0}} x.faults y.faults size (Err f)
    → (IsTrue x.honest → CommitFlags {T = Unit {0}} x.failed y.failed (Err f)) → ((s : Saved) → Stands x s → OpensAs y s) → Breaks x y
breaks size x y f is stays later causes flags opens = record {
  stays = stays;
  later = later;
  rose = (subst (λ (f : CommitFault). CommitCauses {T = Unit {0}} x.faults y.faults size (Err f)) is causes).1;
  flag = λ h. subst (λ (f : CommitFault). CommitFlags {T = Unit {0}} x.failed y.failed (Err f)) is (flags h);
  opens = opens;
}

pub never_full : (size before now n : ℕ) (f : CommitFault) → f ≡ fault.Full n → size ≤ image_most → CommitCauses {T = Unit {0}} before now size (Err f) → ⊥
never_full size before now n f is room causes =
    let c = subst (λ (f : CommitFault). CommitCauses {T = Unit {0}} before now size (Err f)) is causes in
    omega (arith, room, c.0)

-- ---- a piece that was copied from what is left of a text

module _ (text : List ℕ) (at n size : ℕ) (pieces buffer into : List ℕ) where
  abbrev pub Copies : Type 0
  Copies = (size ≡ length text) × ((pieces ≡ drop at text) × ((at < size) × ((0 < length buffer) × ((n ≡ min (length buffer) (length pieces)) × (into ≡ take n pieces ++ drop n buffer)))))

  pub few : Copies → (0 < n) × (at + n ≤ size)
  few c =
      let a = ap length c.1.0 in
      let b = length-drop at text in
      (omega (arith, c.0, a, b, c.1.1.0, c.1.1.1.0, c.1.1.1.1.0), omega (arith, c.0, a, b, c.1.1.0, c.1.1.1.0, c.1.1.1.1.0))

  pub piece_is : Copies → take n into ≡ take n (drop at text)
  piece_is c =
      let low : n ≤ length pieces = omega (arith, c.1.1.1.1.0) in
      let len : length (take n pieces) ≡ n = length-take-le n pieces low in
      ap (λ (l : List ℕ). take n l) c.1.1.1.1.1
      ∙ ap (λ (k : ℕ). take k (take n pieces ++ drop n buffer)) (sym len)
      ∙ take-append_seam (take n pieces) (drop n buffer)
      ∙ ap (λ (l : List ℕ). take n l) c.1.0

  pub piece_fits : (most : ℕ) (o p : Option Begun) (x y : Shown) → Copies → Puts (take at text) x y o p → put_len o + length text ≤ most → put_len p + length (take n into) ≤ most
  piece_fits most o p x y c before room =
      let f = few c in
      let whole : size ≡ length text = c.0 in
      let a = ap length (piece_is c) in
      let b = length-take n (drop at text) in
      let d = length-drop at text in
      let e = length-take at text in
      omega (arith, before.grows, room, f.1, whole, a, b, d, e)

  pub piece_put : (o p q : Option Begun) (x y z : Shown) → Copies → Puts (take at text) x y o p → Puts (take n into) y z p q → Puts (take (at + n) text) x z o q
  piece_put o p q x y z c before now =
      subst (λ (l : List ℕ). Puts l x z o q) (sym (take-add at n text))
      (puts_then (take at text) (take n (drop at text)) x y z o p q before (subst (λ (l : List ℕ). Puts l y z p q) (piece_is c) now))

  pub kept : Copies → length into ≡ length buffer
  kept c =
      let a = ap length c.1.1.1.1.1 in
      let b = length-append (take n pieces) (drop n buffer) in
      let d = length-take n pieces in
      let e = length-drop n buffer in
      omega (arith, a, b, d, e, c.1.1.1.1.0)

  pub left_is : (rest : List ℕ) → Copies → rest ≡ drop n pieces → rest ≡ drop (at + n) text
  left_is rest c is = is ∙ ap (λ (l : List ℕ). drop n l) c.1.0 ∙ drop-drop n at text

-- ---- what a commit comes to

pub opens_as_it_did : (y : Shown) (s n : Saved) → OpensAs y s → OpensAsEither y s n
opens_as_it_did y s n same = λ image here. inl (same image here)

pub ok_then : {T E P : Type 0} (r : Result T E) → is_err r ≡ false → OnOk r P → P
ok_then (Ok x) is p = p
ok_then (Err e) is p = absurd (false≢true (sym is))

-- the parts of an image
pub parts_room : (s : TargetState) → length (state_text s) ≡ length (front_text (front_of s)) + (length (image_text s.objects) + length (log_part s.log))
unfolding spelled.state_text
parts_room s =
    let a = length-append (front_text (front_of s)) (image_text s.objects ++ log_part s.log) in
    let b = length-append (image_text s.objects) (log_part s.log) in
    omega (arith, a, b)

pub parts_joined : (s : TargetState) (front : List ℕ) → front ≡ front_text (front_of s) → (front ++ image_text s.objects) ++ log_part s.log ≡ state_text s
unfolding spelled.state_text
parts_joined s front is = append_assoc front (image_text s.objects) (log_part s.log) ∙ ap (λ (l : List ℕ). l ++ (image_text s.objects ++ log_part s.log)) is

pub pours_err : {T E : Type 0} (r : Result T E) (text : List ℕ) (x y : Shown) (o p : Option Begun) (e : E) → r ≡ Err e → Breaks x y → Pours r text x y o p
pours_err {T} {E} r text x y o p e is broken = subst (λ (r : Result T E). Pours r text x y o p) (sym is) broken

-- the same behind a piece that was put
pub pours_then : {T E : Type 0} (r : Result T E) (a b : List ℕ) (x y z : Shown) (o p q : Option Begun) → Puts a x y o p → Pours r b y z p q → Pours r (a ++ b) x z o q
pours_then (Ok u) a b x y z o p q one two = puts_then a b x y z o p q one two
pours_then (Err e) a b x y z o p q one two = breaks_then a x y z o p one two
