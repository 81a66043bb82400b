-- The laws of the operations over histories, from those of the crates below over trees with layouts.
use Rattle.std.proofs.Common.{◌≡◌, ◌⊎◌, inl, inr, ⊎_elim, ℕ, true, false, List, [], ◌∷◌, length, sym, ap, ◌∙◌}
use Rattle.std.specs.Option.{unwrap_or}
use Rattle.fid_space.specs.declared.fid.Fid.{Fid}
use Rattle.tree_model.specs.declared.op.Op.{Op}
use Rattle.tree_model.specs.History.{Item}
use Rattle.tree_model.specs.Keys.{Key, meets}
use Rattle.tree_model.specs.Looks.{writes}
use Rattle.tree_model.specs.Kept.{laid_step}
use Rattle.tree_model.specs.Laws.{Among}
use Rattle.update_record.specs.Spelling.{has_target}
use Rattle.tree_sound.specs.Sound.{IsSound}
use Rattle.tree_sound.specs.SoundLaws.{HistoriesAreSound}
use Rattle.tree_shares.specs.Parts.{parts}
use Rattle.tree_shares.specs.PartLaws.{PartsAreOfTargets}
use Rattle.op_laws.specs.Objects.{is_among, wrote, saw, stands, there, owner}
use Rattle.op_laws.specs.Laws.{IsCount, WroteOn, WritesObject, Moves, Gone, Stays}
use Rattle.op_laws.specs.PartTies.{PartsNameWhatIsWritten}
use Rattle.update_protocol.specs.Lists.{IsIn}
use Rattle.update_protocol.specs.Facts.{Fits, laid, place}
use Rattle.update_protocol.specs.Laws.{has_written}

pub among_of : (ks : List Key) (k : Key) → IsIn k ks → Among ks k
among_of [] k h = h
among_of (j ∷ js) k h = ⊎_elim (λ e. inl (sym e)) (λ m. inr (among_of js k m)) h

module _ (targets : ℕ) (count : IsCount targets) (sounds : HistoriesAreSound) (names : PartsNameWhatIsWritten) where
  pub sound : (h : List Item) → Fits targets h → IsSound targets (length h) (laid targets h)
  sound h fits = sounds targets h fits.each

  -- what the parts name is what the changes write
  names_are : (h : List Item) (batch : ℕ) (op : Op) (f : Fid) → Fits targets h → has_written targets (laid targets h) batch op f ≡ is_among (wrote targets (laid targets h) op) f
  names_are h batch op f fits = names targets (length h) batch (laid targets h) op f count (sound h fits)

  pub written : (h : List Item) (batch : ℕ) (op : Op) (f : Fid) → Fits targets h → has_written targets (laid targets h) batch op f ≡ true → is_among (wrote targets (laid targets h) op) f ≡ true
  written h batch op f fits e = sym (names_are h batch op f fits) ∙ e

  pub named : (h : List Item) (batch : ℕ) (op : Op) (f : Fid) → Fits targets h → is_among (wrote targets (laid targets h) op) f ≡ true → has_written targets (laid targets h) batch op f ≡ true
  named h batch op f fits e = names_are h batch op f fits ∙ e

  pub takes_writes : WroteOn → PartsAreOfTargets → (h : List Item) (batch : ℕ) (op : Op) (f : Fid) → Fits targets h → has_written targets (laid targets h) batch op f ≡ true
      → has_target (place targets f) (parts targets batch (laid targets h) op) ≡ true
  takes_writes takes each h batch op f fits e =
      let at = takes targets (length h) (laid targets h) op f count (sound h fits) (written h batch op f fits e) in
      ap (λ o. has_target (unwrap_or o 0) (parts targets batch (laid targets h) op)) at.1 ∙ (each targets batch (laid targets h) op at.0 count.0).0 ∙ at.2

  pub object_written : WritesObject → (h : List Item) (batch : ℕ) (op : Op) (w k : Key) → Fits targets h → Among (writes targets (laid targets h).tree op) w → meets w k ≡ true
      → (f : Fid) × (is_among (stands targets (laid_step targets (laid targets h) op) k) f ≡ true) × (has_written targets (laid targets h) batch op f ≡ true)
  object_written writing h batch op w k fits m e =
      let x = writing targets (length h) (laid targets h) op w k count (sound h fits) m e in
      (x.0, x.1, named h batch op x.0 fits x.2)

  pub key_moves : Moves → (h : List Item) (batch : ℕ) (op : Op) (k : Key) → Fits targets h
      → ((f : Fid) → is_among (stands targets (laid targets h) k) f ≡ true → is_among (stands targets (laid_step targets (laid targets h) op) k) f ≡ true)
      ⊎ (((f : Fid) → is_among (stands targets (laid targets h) k) f ≡ true → is_among (saw targets (laid targets h) op) f ≡ true)
      × ((f : Fid) × (is_among (stands targets (laid_step targets (laid targets h) op) k) f ≡ true) × (has_written targets (laid targets h) batch op f ≡ true)))
  key_moves moving h batch op k fits =
      elim (moving targets (length h) (laid targets h) op k count (sound h fits))
      [ inl stays ↦ inl stays | inr goes ↦ inr (goes.0, (goes.1.0, goes.1.1, named h batch op goes.1.0 fits goes.1.2)) ]

  pub gone_with_owner : Gone → (h : List Item) (batch : ℕ) (op : Op) (f : Fid) → Fits targets h → has_written targets (laid targets h) batch op f ≡ true
      → there targets (laid_step targets (laid targets h) op) f ≡ false → has_written targets (laid targets h) batch op (owner targets f) ≡ true
  gone_with_owner going h batch op f fits e none =
      named h batch op (owner targets f) fits (going targets (length h) (laid targets h) op f count (sound h fits) (written h batch op f fits e) none)

  pub stays_there : Stays → (h : List Item) (batch : ℕ) (op : Op) (f : Fid) → Fits targets h → has_written targets (laid targets h) batch op f ≡ false
      → there targets (laid_step targets (laid targets h) op) f ≡ there targets (laid targets h) f
  stays_there staying h batch op f fits e = staying targets (length h) (laid targets h) op f count (sound h fits) (sym (names_are h batch op f fits) ∙ e)
