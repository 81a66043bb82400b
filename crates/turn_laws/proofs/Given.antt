-- What holds of a world that was reached.
use Rattle.std.proofs.Common.{◌≡◌, zero, suc, length, ℕ, true, List, [], ◌∷◌, sym, ap, ◌∙◌, arith}
use Rattle.std.specs.Option.{unwrap_or}
use Rattle.fid_space.specs.declared.fid.Fid.{Fid}
use Rattle.op_laws.specs.Laws.{IsCount}
use Rattle.op_laws.specs.Objects.{is_among}
use Rattle.op_laws.specs.PartTies.{PartsNameWhatIsWritten, WrittenHere}
use Rattle.tree_sound.specs.SoundLaws.{HistoriesAreSound}
use Rattle.tree_shares.specs.Parts.{named_in}
use Rattle.update_record.specs.Spelling.{part_for}
use Rattle.target_state.specs.Rules.{updates_of}
use Rattle.update_protocol.specs.Epochs.{Reached}
use Rattle.update_protocol.specs.Events.{fresh}
use Rattle.update_protocol.specs.Facts.{laid, place}
use Rattle.update_protocol.specs.World.{Accepted, Follows, History, Matches, World, at, grown, request_of, wrote_of}
use Rattle.update_protocol.proofs.Given.{sound, written}
use Rattle.update_protocol.proofs.Invariant.{Invariant}
use Rattle.update_protocol.proofs.Runs.{always, begins}
use Rattle.update_protocol.proofs.Setting.{Setting}
use Rattle.update_protocol.proofs.Stories.{story_grounded}
use Rattle.turn_laws.specs.Values.{fids_of}
use Rattle.turn_laws.specs.Runs.{ArePlaced, names_there}

pub holds_of : (σ : Setting) (h : History) (w : World) → Reached σ.targets h w → Invariant σ.targets w
holds_of σ h w r = always σ r.events (fresh r.start h) w (begins σ r.start h (story_grounded σ h r.story)) r.run

-- an item names what it wrote in the part of its place
module _ (targets : ℕ) (count : IsCount targets) (sounds : HistoriesAreSound) (names : PartsNameWhatIsWritten) (here : WrittenHere) where
  named_there : (h : History) (x : Accepted) → Matches targets h x → (f : Fid) → wrote_of x f ≡ true → names_there (place targets f) x f ≡ true
  named_there h x m f e =
      let wrote = written targets count sounds names h x.batch (request_of x).op f m.fits (sym (ap (λ ps. is_among (named_in ps) f) m.parts) ∙ e) in
      let r = here targets (length h) x.batch (laid targets h) (request_of x).op f count (sound targets count sounds names h m.fits) wrote in
      let in_part = r.2 in
      ap (λ o. is_among (fids_of (updates_of (part_for (unwrap_or o 0) x.parts))) f) in_part.0
      ∙ ap (λ ps. is_among (fids_of (updates_of (part_for r.0 ps))) f) m.parts
      ∙ ap (λ o. is_among (fids_of (updates_of o)) f) in_part.1
      ∙ in_part.2

  pub placed_from : (h : History) (xs : List Accepted) → Follows targets h xs → ArePlaced targets xs
  unfolding at
  placed_from h [] g n l f e = absurd (omega (arith, l))
  placed_from h (x ∷ xs) g zero l f e = named_there h x g.0 f e
  placed_from h (x ∷ xs) g (suc n) l f e = placed_from (grown h x) xs g.1 n (omega (arith, l)) f e
