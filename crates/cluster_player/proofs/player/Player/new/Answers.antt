use Rattle.std.proofs.Common.{◌∙◌}
use Rattle.std.proofs.lemmas.List.{length-map}
use Rattle.cluster_player.proofs.Whole.{none_below}
use Rattle.cluster_player.proofs.player.Player.new.Goals as goal

pub invariant_of-result : goal.invariant_of-result
invariant_of-result g c = record {
  made = tt;
  sixteen = length-map c.args.disks.items g.D.Disk.shown ∙ c.requires;
  sent = λ _. none_below c.new.result c.new.ensures;
}
