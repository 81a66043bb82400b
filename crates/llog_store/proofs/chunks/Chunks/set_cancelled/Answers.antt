use Rattle.std.proofs.Common.{◌≤◌, [], List, ℕ, set, length, ap, ◌∙◌, arith}
use Rattle.std.proofs.lemmas.List.{get_or_read}
use Rattle.llog_store.specs.Kept.{joined, with_numbers, without_bit}
use Rattle.llog_store.proofs.Filling.{kept_long, header_is, cancelled_set}
use Rattle.llog_store.proofs.chunks.Chunks.set_cancelled.Goals as goal

pub index_mut-requires : goal.index_mut-requires
index_mut-requires c =
    let long : 32768 ≤ c.self.inside.len = omega (arith, c.requires.long, kept_long c.self.inside.len c.self.inside.chunks.items c.args.self.now c.self.invariant c.self.view_is) in
    let h = header_is c.self.inside.len c.self.inside.chunks.items c.self.invariant long in
    omega (arith, h.2)

pub set_cancelled-requires-clause-long : goal.set_cancelled-requires-clause-long
set_cancelled-requires-clause-long c =
    let cs = c.self.inside.chunks.items in
    let long : 32768 ≤ c.self.inside.len = omega (arith, c.requires.long, kept_long c.self.inside.len cs c.args.self.now c.self.invariant c.self.view_is) in
    let h = header_is c.self.inside.len cs c.self.invariant long in
    let read = get_or_read cs 0 c.index_mut.result.now h.2 c.index_mut.ensures.value [] in
    omega (arith, h.1, ap length read)

pub invariant_of-self : goal.invariant_of-self
invariant_of-self c =
    let cs = c.self.inside.chunks.items in
    let long : 32768 ≤ c.self.inside.len = omega (arith, c.requires.long, kept_long c.self.inside.len cs c.args.self.now c.self.invariant c.self.view_is) in
    let h = header_is c.self.inside.len cs c.self.invariant long in
    let read = get_or_read cs 0 c.index_mut.result.now h.2 c.index_mut.ensures.value [] in
    let is = c.set_cancelled.ensures ∙ ap (λ (x : List ℕ). without_bit (with_numbers x c.args.next c.args.live) c.args.index) read in
    rw is (cancelled_set c.args.next c.args.live c.args.index c.self.inside.len cs c.requires.low c.self.invariant long).1

pub returns : goal.returns
returns c =
    let cs = c.self.inside.chunks.items in
    let long : 32768 ≤ c.self.inside.len = omega (arith, c.requires.long, kept_long c.self.inside.len cs c.args.self.now c.self.invariant c.self.view_is) in
    let h = header_is c.self.inside.len cs c.self.invariant long in
    let read = get_or_read cs 0 c.index_mut.result.now h.2 c.index_mut.ensures.value [] in
    let is = c.set_cancelled.ensures ∙ ap (λ (x : List ℕ). without_bit (with_numbers x c.args.next c.args.live) c.args.index) read in
    let s = cancelled_set c.args.next c.args.live c.args.index c.self.inside.len cs c.requires.low c.self.invariant long in
    ap (λ (x : List ℕ). joined (set cs 0 x)) is ∙ s.0 ∙ ap (λ (x : List ℕ). without_bit (with_numbers x c.args.next c.args.live) c.args.index) c.self.view_is
