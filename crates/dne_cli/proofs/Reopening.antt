-- A disk that was stopped, and then read or formatted.
use Rattle.std.specs.Prelude.{IfErr, IfOk}
use Rattle.std.proofs.Common.{◌≡◌, ℕ, List, length, IsTrue, Some, None, Result, Ok, Err, inl, inr, refl, sym, ◌∙◌, ap, subst, arith}
use Rattle.outside.specs.Causes.{Rose}
use Rattle.outside.specs.Disk.{Shown, IsImage}
use Rattle.outside.proofs.Parts.{image_only}
use Rattle.target_disk.specs.Tables.{Saved, opened}
use Rattle.target_disk.specs.Open.{Opens, Reopens, StaysSettled}
use Rattle.target_disk.specs.Reads.{Keeps}
use Rattle.dne_cli.specs.Image.{numbers_in}
use Rattle.dne_cli.specs.Disks.{Calls, Cycled, Faulted, Formatted, HoldsBadImage, HoldsNothing, StaysOff, Touches, gates_of}
use Rattle.dne_cli.specs.Kept.{Damaged, OpensAsBefore, Reformatted, Reopened, Unformatted, Unread}
use Rattle.dne_cli.specs.Restart.{FailsToMake, FailsToRemake}
use Rattle.dne_cli.specs.declared.target.MakeFault.{MakeFault}
use Rattle.dne_cli.specs.declared.target.MakeFault.TheVariants as make_fault
use Rattle.dne_cli.proofs.Touching.{touches_trans}

-- a disk that was read alone opens as before
pub keeps_reopens : (old new : Shown) → Keeps old new → Reopens old new
keeps_reopens old new keeps = record {
  stays = keeps.stays;
  later = keeps.later;
  same = λ honest clean image here. ap opened (image_only old.content image (subst (λ s. IsImage s image) (keeps.settled honest ∙ clean) here));
}

module _ (calls : Calls) where
  pub unread_off : (old new : Shown) → StaysOff calls old new → Unread calls old new
  unread_off old new off = record {
    faulted = off.faulted;
    after_stop = inl off;
    images = λ honest image here. (image, subst (λ s. IsImage s image) (off.settled honest) here, refl);
  }

  pub unformatted_off : (old new : Shown) → StaysOff calls old new → Unformatted calls old new
  unformatted_off old new off = record { faulted = off.faulted; after_stop = inl off }

  pub formatted_after : (old mid new : Shown) → Cycled calls old mid → Formatted mid new → Reformatted calls old new
  formatted_after old mid new cycle f = record {
    formatted = record { touches = touches_trans old mid new cycle.touches f.touches; settled = λ honest. f.settled (subst IsTrue (sym cycle.touches.stays.honest) honest) };
    after_stop = (mid, cycle, f);
  }

  pub unformatted_after : (old mid new : Shown) → Cycled calls old mid → Faulted mid new → Unformatted calls old new
  unformatted_after old mid new cycle f =
      let later = cycle.touches.later in
      let rose = f.rose in
      record {
        faulted = record { touches = touches_trans old mid new cycle.touches f.touches; rose = omega (arith, later, rose) };
        after_stop = inr (mid, cycle, f);
      }

  module _ (old mid new : Shown) (cycle : Cycled calls old mid) (reopens : Reopens mid new) where
    honest_still : IsTrue old.honest → IsTrue mid.honest
    honest_still honest = subst IsTrue (sym cycle.touches.stays.honest) honest

    pub touched : Touches old new
    touched = touches_trans old mid new cycle.touches (record { stays = reopens.stays; later = reopens.later })

    pub rose : Rose mid.faults new.faults → Rose old.faults new.faults
    rose up = let later = cycle.touches.later in omega (arith, later, up)

    pub no_others : IsTrue old.honest → OpensAsBefore old new
    no_others honest image here = (mid.content, cycle.image honest, reopens.same (honest_still honest) (cycle.settled honest) image here)

    pub unread : Rose mid.faults new.faults → Unread calls old new
    unread up = record { faulted = record { touches = touched; rose = rose up }; after_stop = inr (mid, cycle, reopens, up); images = no_others }

    pub damaged_gates : (gates : ℕ) → (IsTrue mid.honest → IsTrue mid.tells) → (IsTrue mid.tells → (opened mid.content ≡ None) × (gates ≡ gates_of mid.content)) → Damaged calls (HoldsNothing gates) old new
    damaged_gates gates tells none = record {
      touches = touched;
      after_stop = (mid, cycle, reopens, none);
      cause = λ honest. (mid.content, cycle.image honest, inl ((none (tells (honest_still honest))).0));
      images = no_others;
    }

    pub damaged_image : (image : List ℕ) (place : ℕ) → (IsTrue mid.honest → IsTrue mid.tells) → (IsTrue mid.tells → (s : Saved) × (opened mid.content ≡ Some s) × (s.bytes ≡ image)) → numbers_in image ≡ Err place → Damaged calls (HoldsBadImage place) old new
    damaged_image image place tells opens bad = record {
      touches = touched;
      after_stop = (mid, cycle, reopens, λ t. let found = opens t in (found.0, found.1, ap numbers_in found.2 ∙ bad));
      cause = λ honest. let found = opens (tells (honest_still honest)) in (mid.content, cycle.image honest, inr (found.0, place, found.1, ap numbers_in found.2 ∙ bad));
      images = no_others;
    }

    pub reopened : (image numbers : List ℕ) → (IsTrue mid.honest → IsTrue mid.tells) → Opens mid new image → StaysSettled mid new → numbers_in image ≡ Ok numbers → Reopened calls old new (length numbers) numbers
    reopened image numbers tells o settled read = record {
      touches = touched;
      after_stop = (mid, cycle, reopens, λ t. let found = o.opens t in (found.0, found.1, ap numbers_in found.2 ∙ read, refl));
      counted = refl;
      read = λ honest.
          let here = honest_still honest in
          let found = o.opens (tells here) in
          (mid.content, cycle.image honest, (found.0, found.1, ap numbers_in found.2 ∙ read, settled found.0 here (cycle.settled honest) found.1));
    }

  -- each answer other than Ok of a formatting after a stop
  pub fails_after : {D : Type 0} (shown : D → Shown) (old mid : Shown) (e : MakeFault D) → Cycled calls old mid → FailsToMake shown mid e → FailsToRemake calls shown old e
  fails_after shown old mid (make_fault.Disk disk) cycle f = unformatted_after old mid (shown disk) cycle f
  fails_after shown old mid (make_fault.Memory disk) cycle t = touches_trans old mid (shown disk) cycle.touches t

-- ANSWERS

pub if_ok_map : {T E : Type 0} (result : Result T E) (P Q : T → Type 0) → ((x : T) → P x → Q x) → IfOk result P → IfOk result Q
if_ok_map (Ok x) P Q f h = f x h
if_ok_map (Err e) P Q f h = tt

pub if_err_map : {T E : Type 0} (result : Result T E) (P Q : E → Type 0) → ((x : E) → P x → Q x) → IfErr result P → IfErr result Q
if_err_map (Ok x) P Q f h = tt
if_err_map (Err e) P Q f h = f e h
