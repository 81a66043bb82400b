use Rattle.std.proofs.Common.{◌≡◌, ◌+◌, ◌%◌, ◌⊎◌, ◌≤◌, ℕ, subst, arith, inl, inr}
use Rattle.llog_store.proofs.Filling.{kept_long, reaches}
use Rattle.llog_store.proofs.chunks.Chunks.add_entry.Goals as goal

pub overflow_add-self-inside : goal.overflow_add-self-inside
overflow_add-self-inside c =
    let long = kept_long c.self.inside.len c.self.inside.chunks.items c.args.self.now c.self.invariant c.self.view_is in
    elim c.requires.lost [ inl none ↦ omega (arith, none, c.requires.long, long) | inr some ↦ omega (arith, some.1, c.requires.long, long) ]

pub ready-requires : goal.ready-requires
ready-requires c =
    let long = kept_long c.self.inside.len c.self.inside.chunks.items c.args.self.now c.self.invariant c.self.view_is in
    let most = reaches c.self.inside.len c.self.inside.chunks.items c.self.invariant in
    elim c.requires.lost [ inl none ↦ omega (arith, none, most) | inr some ↦ omega (arith, some.1, c.requires.less, most, long) ]

pub pad_at-self-inside-requires-clause-lost : goal.pad_at-self-inside-requires-clause-lost
pad_at-self-inside-requires-clause-lost c =
    let long = kept_long c.self.inside.len c.self.inside.chunks.items c.args.self.now c.self.invariant c.self.view_is in
    subst (λ (n : ℕ). (c.args.lost ≡ 0) ⊎ ((24 ≤ c.args.lost) × (n % 32768 + c.args.lost ≡ 32768))) long c.requires.lost

pub pad_at-self-inside-requires-clause-long : goal.pad_at-self-inside-requires-clause-long
pad_at-self-inside-requires-clause-long c =
    omega (arith, c.requires.long, kept_long c.self.inside.len c.self.inside.chunks.items c.args.self.now c.self.invariant c.self.view_is)

pub record_at-self-inside-requires-clause-room : goal.record_at-self-inside-requires-clause-room
record_at-self-inside-requires-clause-room c =
    omega (arith, c.requires.room, c.pad_at-self-inside.ensures.value, kept_long c.self.inside.len c.self.inside.chunks.items c.args.self.now c.self.invariant c.self.view_is)

pub record_at-self-inside-requires-clause-long : goal.record_at-self-inside-requires-clause-long
record_at-self-inside-requires-clause-long c =
    let long = kept_long c.self.inside.len c.self.inside.chunks.items c.args.self.now c.self.invariant c.self.view_is in
    elim c.requires.lost [ inl none ↦ omega (arith, none, c.requires.long, long, c.pad_at-self-inside.ensures.value) | inr some ↦ omega (arith, some.1, c.requires.long, long, c.pad_at-self-inside.ensures.value) ]
