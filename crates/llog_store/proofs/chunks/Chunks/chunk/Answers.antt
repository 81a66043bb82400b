use Rattle.std.proofs.Common.{◌≡◌, ◌<◌, true, ltb, List, ℕ, [], length, ap, ◌∙◌, arith, refl}
use Rattle.std.proofs.lemmas.Bool.{lt-ltb}
use Rattle.std.proofs.lemmas.List.{get_or_read}
use Rattle.llog_store.specs.Chunked.{chunk_count, chunk_at}
use Rattle.llog_store.proofs.Filling.{kept_long, reaches, chunk_is}
use Rattle.llog_store.proofs.chunks.Chunks.chunk.Goals as goal

pub index-requires : goal.index-requires
index-requires c =
    let long = kept_long c.self.inside.len c.self.inside.chunks.items c.args.self.now c.self.invariant c.self.view_is in
    omega (arith, c.if-i-count.true, c.count.ensures, long, reaches c.self.inside.len c.self.inside.chunks.items c.self.invariant)

pub returns-then-i-count : goal.returns-then-i-count
returns-then-i-count c =
    let cs = c.self.inside.chunks.items in
    let long = kept_long c.self.inside.len cs c.args.self.now c.self.invariant c.self.view_is in
    let there : c.args.i < length cs = omega (arith, c.if-i-count.true, c.count.ensures, long, reaches c.self.inside.len cs c.self.invariant) in
    let below : c.args.i < chunk_count c.args.self.now = omega (arith, c.if-i-count.true, c.count.ensures) in
    let yes : ltb c.args.i (chunk_count c.args.self.now) ≡ true = lt-ltb _ _ below in
    let is = c.bytes.ensures ∙ get_or_read cs c.args.i c.index.result.now there c.index.ensures [] ∙ chunk_is c.self.inside.len cs c.args.i c.self.invariant there ∙ ap (λ (x : List ℕ). chunk_at x c.args.i) c.self.view_is in
    rw (yes, is) refl
