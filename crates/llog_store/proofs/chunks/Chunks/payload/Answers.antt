use Rattle.std.proofs.Common.{◌≡◌, ◌+◌, ◌-◌, ◌/◌, ◌%◌, ◌<◌, ◌≤◌, List, ℕ, [], length, take, drop, ap, ◌∙◌, arith}
use Rattle.std.proofs.lemmas.List.{get_or_read}
use Rattle.llog_store.specs.Chunked.{chunk_at}
use Rattle.llog_store.proofs.Filling.{kept_long, reaches, chunk_is, part_is, part_long}
use Rattle.llog_store.proofs.chunks.Chunks.payload.Goals as goal

pub index-requires : goal.index-requires
index-requires c =
    let long = kept_long c.self.inside.len c.self.inside.chunks.items c.args.self.now c.self.invariant c.self.view_is in
    omega (arith, c.requires.within, long, reaches c.self.inside.len c.self.inside.chunks.items c.self.invariant)

pub slice_bounds-result-end : goal.slice_bounds-result-end
slice_bounds-result-end c =
    let cs = c.self.inside.chunks.items in
    let long = kept_long c.self.inside.len cs c.args.self.now c.self.invariant c.self.view_is in
    let there : c.args.at / 32768 < length cs = omega (arith, c.requires.within, long, reaches c.self.inside.len cs c.self.invariant) in
    let is : c.bytes.result.now ≡ chunk_at c.args.self.now (c.args.at / 32768) = c.bytes.ensures ∙ get_or_read cs (c.args.at / 32768) c.index.result.now there c.index.ensures [] ∙ chunk_is c.self.inside.len cs (c.args.at / 32768) c.self.invariant there ∙ ap (λ (x : List ℕ). chunk_at x (c.args.at / 32768)) c.self.view_is in
    let enough : c.args.at % 32768 + 24 + c.args.n ≤ length c.bytes.result.now = omega (arith, ap length is, part_long c.args.self.now c.args.at 24 c.args.n c.requires.within c.requires.inside) in
    enough

pub returns : goal.returns
returns c =
    let cs = c.self.inside.chunks.items in
    let long = kept_long c.self.inside.len cs c.args.self.now c.self.invariant c.self.view_is in
    let there : c.args.at / 32768 < length cs = omega (arith, c.requires.within, long, reaches c.self.inside.len cs c.self.invariant) in
    let is : c.bytes.result.now ≡ chunk_at c.args.self.now (c.args.at / 32768) = c.bytes.ensures ∙ get_or_read cs (c.args.at / 32768) c.index.result.now there c.index.ensures [] ∙ chunk_is c.self.inside.len cs (c.args.at / 32768) c.self.invariant there ∙ ap (λ (x : List ℕ). chunk_at x (c.args.at / 32768)) c.self.view_is in
    let count : c.args.at % 32768 + 24 + c.args.n - (c.args.at % 32768 + 24) ≡ c.args.n = omega arith in
    ap (λ (m : ℕ). take m (drop (c.args.at % 32768 + 24) c.bytes.result.now)) count ∙ ap (λ (x : List ℕ). take c.args.n (drop (c.args.at % 32768 + 24) x)) is ∙ part_is c.args.self.now c.args.at 24 c.args.n c.requires.inside
