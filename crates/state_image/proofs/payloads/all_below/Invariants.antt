use Rattle.std.proofs.Common.{◌≡◌, drop}
use Rattle.state_image.specs.StateText.{all_below}
use Rattle.state_image.proofs.payloads.all_below.Given as goal

abbrev pub invariant-loop-part : goal.invariant-loop-part
invariant-loop-part l = all_below l.targets (drop l.part-index l.parts) ≡ all_below l.targets l.parts
