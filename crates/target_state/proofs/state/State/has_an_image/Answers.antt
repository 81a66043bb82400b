use Rattle.std.proofs.Common.{ℕ, ◌<◌, ◌^◌, subst, sym, arith}
use Rattle.llog_store.specs.Log.{IsLog}
use Rattle.state_image.specs.StateText.{FitsState}
use Rattle.target_state.specs.State.{TargetState}
use Rattle.target_state.specs.Image.{image_of, IsInRange}
use Rattle.target_state.proofs.Spelling.{has_image}
use Rattle.target_state.proofs.state.State.has_an_image.Goals as goal

pub returns : goal.returns
returns c = λ range.
    let ranged = subst IsInRange (sym c.self.view_is) range in
    let index = subst (λ (n : ℕ). n < 2 ^ 8) c.byte-index.ensures.value c.byte-index.ensures.small in
    subst (λ (s : TargetState). FitsState (image_of s)) c.self.view_is
    (has_image _ ranged index (omega (arith, c.targets-targets.type_inv, c.targets-targets.ensures.count)) c.items-seats.ensures.all c.self.invariant.2 (subst IsLog c.log.ensures c.next-next.ensures.is_log) c.self.invariant.1)
