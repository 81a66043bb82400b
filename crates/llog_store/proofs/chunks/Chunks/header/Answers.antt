use Rattle.std.proofs.Common.{◌≤◌, ap, ◌∙◌, arith, take, List, ℕ, []}
use Rattle.std.proofs.lemmas.List.{get_or_read}
use Rattle.llog_store.proofs.Filling.{kept_long, header_is}
use Rattle.llog_store.proofs.chunks.Chunks.header.Goals as goal

pub index-requires : goal.index-requires
index-requires c =
    let long : 32768 ≤ c.self.inside.len = omega (arith, c.requires, kept_long c.self.inside.len c.self.inside.chunks.items c.args.self.now c.self.invariant c.self.view_is) in
    let h = header_is c.self.inside.len c.self.inside.chunks.items c.self.invariant long in omega (arith, h.2)

pub returns : goal.returns
returns c =
    let long : 32768 ≤ c.self.inside.len = omega (arith, c.requires, kept_long c.self.inside.len c.self.inside.chunks.items c.args.self.now c.self.invariant c.self.view_is) in
    let h = header_is c.self.inside.len c.self.inside.chunks.items c.self.invariant long in
    c.bytes.ensures ∙ get_or_read c.self.inside.chunks.items 0 c.index.result.now h.2 c.index.ensures [] ∙ h.0 ∙ ap (λ (x : List ℕ). take 32768 x) c.self.view_is
