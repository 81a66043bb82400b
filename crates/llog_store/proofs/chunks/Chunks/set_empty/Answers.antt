use Rattle.std.proofs.Common.{◌≤◌, ◌<◌, [], List, ℕ, set, take, length, ap, ◌∙◌, arith}
use Rattle.std.proofs.lemmas.List.{get_or_read}
use Rattle.llog_store.specs.Kept.{joined, with_numbers, wiped}
use Rattle.llog_store.proofs.Filling.{kept_long, header_is, emptied_set}
use Rattle.llog_store.proofs.chunks.Chunks.set_empty.Goals as goal

pub clear_behind-requires : goal.clear_behind-requires
clear_behind-requires c =
    let long : 32768 ≤ c.self.inside.len = omega (arith, c.requires, kept_long c.self.inside.len c.self.inside.chunks.items c.args.self.now c.self.invariant c.self.view_is) in
    (header_is c.self.inside.len c.self.inside.chunks.items c.self.invariant long).2

pub index_mut-requires : goal.index_mut-requires
index_mut-requires c =
    let long : 32768 ≤ c.self.inside.len = omega (arith, c.requires, kept_long c.self.inside.len c.self.inside.chunks.items c.args.self.now c.self.invariant c.self.view_is) in
    let h = header_is c.self.inside.len c.self.inside.chunks.items c.self.invariant long in
    omega (arith, h.2, c.clear_behind.ensures.count)

pub set_empty-requires : goal.set_empty-requires
set_empty-requires c =
    let cs = c.clear_behind.new.chunks.items in
    let long : 32768 ≤ c.self.inside.len = omega (arith, c.requires, kept_long c.self.inside.len c.self.inside.chunks.items c.args.self.now c.self.invariant c.self.view_is) in
    let h = header_is c.self.inside.len c.self.inside.chunks.items c.self.invariant long in
    let there : 0 < length cs = omega (arith, h.2, c.clear_behind.ensures.count) in
    let read = get_or_read cs 0 c.index_mut.result.now there c.index_mut.ensures.value [] in
    omega (arith, h.1, ap length read, ap length c.clear_behind.ensures.first)

pub invariant_of-self : goal.invariant_of-self
invariant_of-self c =
    let cs = c.clear_behind.new.chunks.items in
    let long : 32768 ≤ c.self.inside.len = omega (arith, c.requires, kept_long c.self.inside.len c.self.inside.chunks.items c.args.self.now c.self.invariant c.self.view_is) in
    let h = header_is c.self.inside.len c.self.inside.chunks.items c.self.invariant long in
    let there : 0 < length cs = omega (arith, h.2, c.clear_behind.ensures.count) in
    let read = get_or_read cs 0 c.index_mut.result.now there c.index_mut.ensures.value [] in
    let is = c.set_empty.ensures ∙ ap (λ (x : List ℕ). with_numbers (wiped x) 1 0) read in
    rw is (emptied_set c.self.inside.len c.self.inside.chunks.items cs c.self.invariant long c.clear_behind.ensures.first c.clear_behind.ensures.count c.clear_behind.ensures.empty).1

pub returns : goal.returns
returns c =
    let cs = c.clear_behind.new.chunks.items in
    let long : 32768 ≤ c.self.inside.len = omega (arith, c.requires, kept_long c.self.inside.len c.self.inside.chunks.items c.args.self.now c.self.invariant c.self.view_is) in
    let h = header_is c.self.inside.len c.self.inside.chunks.items c.self.invariant long in
    let there : 0 < length cs = omega (arith, h.2, c.clear_behind.ensures.count) in
    let read = get_or_read cs 0 c.index_mut.result.now there c.index_mut.ensures.value [] in
    let is = c.set_empty.ensures ∙ ap (λ (x : List ℕ). with_numbers (wiped x) 1 0) read in
    let s = emptied_set c.self.inside.len c.self.inside.chunks.items cs c.self.invariant long c.clear_behind.ensures.first c.clear_behind.ensures.count c.clear_behind.ensures.empty in
    ap (λ (x : List ℕ). joined (set cs 0 x)) is ∙ s.0 ∙ ap (λ (x : List ℕ). with_numbers (wiped (take 32768 x)) 1 0) c.self.view_is
