use Rattle.std.proofs.Common.{Option, sym, ap, subst, ◌∙◌}
use Rattle.std.specs.FinMap.{FinMap}
use Rattle.std.specs.FinMap as map
use Rattle.tree_model.specs.Fids.{fid_cmp}
use Rattle.tree_model.proofs.Maps.{put, fids_total, exact_fids}
use Rattle.plan_base.specs.declared.seen.Seen.{Seen}
use Rattle.plan_base.specs.Heard.{IsHeard}
use Rattle.plan_base.specs.Told.{Told}
use Rattle.plan_base.proofs.facts.Facts.tell_node.Goals as goal

pub returns : goal.returns
returns c =
    let shown = λ (m : FinMap fid_cmp (Option Seen)). let t : Told = record { nodes = m; entries = c.self.inside.entries.items; counts = c.self.inside.counts.items; values = c.self.inside.values.items; names = c.self.inside.names.items } in t in
    record {
      told = ap shown (put fid_cmp fids_total exact_fids c.self.inside.nodes.entries c.insert.new.self.entries c.args.fid c.args.seen c.in_ok-insert.ensures.updates.0)
          ∙ ap (λ (t : Told). let u : Told = record t { nodes = map.insert t.nodes c.args.fid c.args.seen } in u) c.self.view_is;
      heard = subst (λ t. IsHeard t) (sym c.self.view_is);
    }
