-- What a disk holds after each thing that is done to it.
use Rattle.std.proofs.Common.{◌≡◌, ◌≤◌, ◌+◌, ℕ, List, [], ◌++◌, length, take, Option, Some, None, Result, Ok, Err, IsTrue, inl, inr, refl, sym, ap, ◌∙◌, subst, length-append, arith}
use Rattle.std.proofs.lemmas.List.{take_all, length-take-le, length-map, take-append-le}
use Rattle.outside.specs.Disk.{Shown, IsImage}
use Rattle.outside.proofs.Parts.{image_only}
use Rattle.target_disk.specs.Tables.{Saved, opened}
use Rattle.target_disk.specs.Store.{IsSettled, following, next}
use Rattle.tree_model.specs.History.{Item}
use Rattle.scenario_text.specs.Machine.{numbers_of}
use Rattle.scenario_text.specs.declared.line.Standing.{Standing}
use Rattle.scenario_text.specs.declared.line.Standing.TheVariants.{Serving, Opened, Down}
use Rattle.dne_cli.specs.Image.{Holds, head_bytes, image_of, numbers_in}
use Rattle.dne_cli.specs.Kept.{Committed, Damaged, Ledger, OpensAsBefore, Reopened, Torn, image_bytes}
use Rattle.dne_cli.specs.Disks.{Calls, Formatted}
use Rattle.dne_cli.specs.Reached.{Matches, StandsAt, Stored}

-- a disk with everything settled opens as its content
pub settled_opens : (disk : Shown) (s : Saved) → IsSettled disk s → (image : List ℕ) → IsImage disk.settled image → opened image ≡ Some s
settled_opens disk s settled image here = ap opened (image_only disk.content image (subst (λ l. IsImage l image) settled.clean here)) ∙ settled.opens

-- a disk that opens as a front, when its target stops
pub stops_at : (last : ℕ) (h : List Item) (disk : Shown) → StandsAt last h disk → Stored Down last h disk
stops_at last h disk s = λ image here. record { generation = s.generation; count = last; stable = omega arith; accepted = s.accepted; opens = settled_opens disk _ s.settled image here }

pub image_is : (targets : ℕ) (h : List Item) (pend : List ℕ) (l : Ledger) → Matches targets h pend l → image_bytes l ≡ image_of h
image_is targets h pend l m = λ i. head_bytes (m.count i) ++ m.bytes i

-- the same history, when all of it is taken
take_whole : (n : ℕ) (h : List Item) → n ≡ length h → take n h ≡ h
take_whole n h e = take_all n h (omega (arith, e))

-- a commit that succeeded
pub commits_at : (last pending : ℕ) (h : List Item) (bytes : List ℕ) (disk new : Shown) → StandsAt last h disk → Committed bytes disk new → bytes ≡ image_of h → last + pending ≡ length h → StandsAt (last + pending) h new
commits_at last pending h bytes disk new s c is all =
    let now : IsSettled new (next (record { generation = s.generation; bytes = image_of (take last h) }) bytes) = c.done _ s.settled in
    let image : bytes ≡ image_of (take (last + pending) h) = is ∙ ap image_of (sym (take_whole (last + pending) h all)) in
    record { generation = following s.generation; accepted = omega (arith, all); settled = subst (λ b. IsSettled new (record { generation = following s.generation; bytes = b })) image now }

-- a commit that failed
pub torn_at : (last pending : ℕ) (h : List Item) (bytes : List ℕ) (disk new : Shown) → StandsAt last h disk → Torn bytes disk new → bytes ≡ image_of h → last + pending ≡ length h → Stored Down last h new
torn_at last pending h bytes disk new s c is all = λ image here.
    elim (c.either _ s.settled image here) [
      | inl old ↦ record { generation = s.generation; count = last; stable = omega arith; accepted = s.accepted; opens = old }
      | inr now ↦
          let bytes_are : bytes ≡ image_of (take (last + pending) h) = is ∙ ap image_of (sym (take_whole (last + pending) h all)) in
          record {
            generation = following s.generation;
            count = last + pending;
            stable = omega arith;
            accepted = omega (arith, all);
            opens = now ∙ ap (λ b. Some (record { generation = following s.generation; bytes = b })) bytes_are;
          }
    ]

-- a history that goes on
pub grows_at : (last : ℕ) (h longer more : List Item) (disk : Shown) → longer ≡ h ++ more → StandsAt last h disk → StandsAt last longer disk
grows_at last h longer more disk e s =
    let within = s.accepted in
    let size = ap length e ∙ length-append h more in
    let front : take last h ≡ take last longer = sym (ap (take last) e ∙ take-append-le last h more within) in
    record { generation = s.generation; accepted = omega (arith, size, within); settled = subst (λ l. IsSettled disk (record { generation = s.generation; bytes = image_of l })) front s.settled }

-- a disk that was formatted, before anything was accepted
pub formats_at : (last : ℕ) (h : List Item) (disk new : Shown) → Formatted disk new → IsTrue disk.honest → h ≡ [] → last ≡ 0 → StandsAt last h new
formats_at last h disk new f honest none zero =
    let empty : take last h ≡ [] = ap (λ n. take n h) zero in
    record { generation = 1; accepted = omega (arith, zero); settled = subst (λ l. IsSettled new (record { generation = 1; bytes = image_of l })) (sym empty) (f.settled honest) }

-- a disk that couldn't be read holds no more than before
pub unread_at : (last : ℕ) (h : List Item) (disk new : Shown) → Stored Down last h disk → OpensAsBefore disk new → Stored Down last h new
unread_at last h disk new s images = λ image here.
    let before = images image here in
    let o = s before.0 before.1 in
    record { generation = o.generation; count = o.count; stable = o.stable; accepted = o.accepted; opens = before.2 ∙ o.opens }

some_same : {X : Type 0} (x y : X) → Some x ≡ Some y → x ≡ y
some_same x y e = cc

ok_same : (a b : List ℕ) → ◌≡◌ {A = Result (List ℕ) ℕ} (Ok a) (Ok b) → a ≡ b
ok_same a b e = cc

-- a disk that was opened holds a front of what was accepted
pub record OpenedAt (last : ℕ) (h : List Item) (new : Shown) (transno : ℕ) (numbers : List ℕ) : Type 0 where
  pub stable : last ≤ transno
  pub accepted : transno ≤ length h
  pub front : numbers ≡ numbers_of (take transno h)
  pub stands : StandsAt transno h new

-- the numbers of an image of what was accepted
abbrev pub ReadsAgain : List Item → Type 0
ReadsAgain h = (n : ℕ) → n ≤ length h → numbers_in (image_of (take n h)) ≡ Ok (numbers_of (take n h))

pub opens_at : (calls : Calls) (last : ℕ) (h : List Item) (disk new : Shown) (transno : ℕ) (numbers : List ℕ) → Stored Down last h disk → Reopened calls disk new transno numbers → IsTrue disk.honest → ReadsAgain h → OpenedAt last h new transno numbers
opens_at calls last h disk new transno numbers s r honest again =
    let read = r.read honest in
    let o = s read.0 read.1 in
    let saved : read.2.0 ≡ record { generation = o.generation; bytes = image_of (take o.count h) } = some_same _ _ (sym read.2.1 ∙ o.opens) in
    let bytes : read.2.0.bytes ≡ image_of (take o.count h) = ap (λ (x : Saved). x.bytes) saved in
    let are : numbers ≡ numbers_of (take o.count h) = ok_same _ _ (sym read.2.2 ∙ ap numbers_in bytes ∙ again o.count o.accepted) in
    let size : length (numbers_of (take o.count h)) ≡ o.count = length-map (take o.count h) (λ i. i.request.number) ∙ length-take-le o.count h o.accepted in
    let counted : transno ≡ o.count = r.counted ∙ ap length are ∙ size in
    let stable = o.stable in
    let accepted = o.accepted in
    record {
      stable = omega (arith, counted, stable);
      accepted = omega (arith, counted, accepted);
      front = are ∙ ap (λ n. numbers_of (take n h)) (sym counted);
      stands = record {
        generation = o.generation;
        accepted = omega (arith, counted, accepted);
        settled = subst (λ n. IsSettled new (record { generation = o.generation; bytes = image_of (take n h) })) (sym counted) (subst (λ x. IsSettled new x) saved read.2.3);
      };
    }

-- an honest disk isn't damaged
pub never_damaged : (calls : Calls) (P : List ℕ → Type 0) (last : ℕ) (h : List Item) (disk new : Shown) → Stored Down last h disk → Damaged calls P disk new → ReadsAgain h → IsTrue disk.honest → ⊥
never_damaged calls P last h disk new s d again honest =
    let cause = d.cause honest in
    let o = s cause.0 cause.1 in
    elim cause.2 [
      | inl none ↦ absurd (some_none _ (sym o.opens ∙ none))
      | inr bad ↦
          let saved : bad.0 ≡ record { generation = o.generation; bytes = image_of (take o.count h) } = some_same _ _ (sym bad.2 ∙ o.opens) in
          absurd (ok_err _ _ (sym (ap numbers_in (ap (λ (x : Saved). x.bytes) saved) ∙ again o.count o.accepted) ∙ bad.3))
    ]
  where
    some_none : (x : Saved) → ◌≡◌ {A = Option Saved} (Some x) None → ⊥
    some_none x e = cc

    ok_err : (ns : List ℕ) (p : ℕ) → ◌≡◌ {A = Result (List ℕ) ℕ} (Ok ns) (Err p) → ⊥
    ok_err ns p e = cc

-- IMAGES AGAIN

pub bears_all : (standing : Standing) (last : ℕ) (h : List Item) (disk : Shown) → Stored standing last h disk → (image : List ℕ) → IsImage disk.settled image
    → (count : ℕ) × (last ≤ count) × (count ≤ length h) × ((standing ≡ Down → ⊥) → count ≡ last) × Holds image (take count h)
bears_all Serving last h disk s image here = (last, omega arith, s.accepted, (λ _. refl), (_, settled_opens disk _ s.settled image here, refl))
bears_all Opened last h disk s image here = (last, omega arith, s.accepted, (λ _. refl), (_, settled_opens disk _ s.settled image here, refl))
bears_all Down last h disk s image here = let o = s image here in (o.count, o.stable, o.accepted, (λ other. absurd (other refl)), (_, o.opens, refl))

pub holds_all : (last : ℕ) (h : List Item) (disk : Shown) → Stored Serving last h disk → last ≡ length h → (image : List ℕ) → IsImage disk.settled image → Holds image h
holds_all last h disk s all image here = (_, settled_opens disk _ s.settled image here, ap image_of (take_whole last h all))
