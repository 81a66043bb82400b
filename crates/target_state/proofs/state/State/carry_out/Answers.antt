use Rattle.std.proofs.Common.{ap, sym, subst, ◌∙◌, List, ℕ}
use Rattle.byte_grammar.specs.Numbers.{IsBytes}
use Rattle.state_image.specs.declared.front.Front.{Front}
use Rattle.target_state.specs.State.{TargetState}
use Rattle.target_state.proofs.Bounds.{HasRoom, room_left, left_bounded, emptied_bounded, done_bounded, seated_bounded}
use Rattle.target_state.proofs.Spelling.{objects_gone, objects_done, seats_put}
use Rattle.target_state.proofs.state.State.carry_out.Goals as goal

pub invariant_of-self : goal.invariant_of-self
invariant_of-self c = (c.self.invariant.0, left_bounded c.self.inside.front.seats c.self.inside.objects c.self.inside.log _ c.in_err-append.ensures.err c.self.invariant.1, c.self.invariant.2)

pub invariant_of-self-in_err-written : goal.invariant_of-self-in_err-written
invariant_of-self-in_err-written c =
    let room = subst (λ (s : TargetState). HasRoom s.seats s.objects s.log) (sym c.self.view_is) (room_left c.args.self.now c.requires.load) in
    let none = c.replace-objects.ensures.after ∙ c.in_ok-none.ensures in
    (c.self.invariant.0, emptied_bounded _ _ _ _ _ none room c.in_ok-append.ensures.grows, (c.self.invariant.2.0, objects_gone _ none))

pub invariant_of-self-in_err-note : goal.invariant_of-self-in_err-note
invariant_of-self-in_err-note c =
    let room = subst (λ (s : TargetState). HasRoom s.seats s.objects s.log) (sym c.self.view_is) (room_left c.args.self.now c.requires.load) in
    let bounded = done_bounded _ _ _ _ _ _ c.replace-objects.ensures.value room c.in_ok-written.ensures.grows c.in_ok-append.ensures.grows in
    let bytes = subst IsBytes (c.bytes.ensures ∙ c.in_ok-payload.ensures) c.in_ok-append.ensures.bytes in
    (c.self.invariant.0, bounded, (c.self.invariant.2.0, objects_done c.self.inside.front.index c.args.entry.now _ _ _ _ _ c.requires.entry bytes c.replace-objects.ensures.value c.self.invariant.2.1 c.in_ok-written.ensures.objects bounded))

pub invariant_of-self-in_err-push : goal.invariant_of-self-in_err-push
invariant_of-self-in_err-push c =
    let room = subst (λ (s : TargetState). HasRoom s.seats s.objects s.log) (sym c.self.view_is) (room_left c.args.self.now c.requires.load) in
    let bounded = done_bounded _ _ _ _ _ _ c.replace-objects.ensures.value room c.in_ok-written.ensures.grows c.in_ok-append.ensures.grows in
    let bytes = subst IsBytes (c.bytes.ensures ∙ c.in_ok-payload.ensures) c.in_ok-append.ensures.bytes in
    (c.self.invariant.0, bounded, (c.self.invariant.2.0, objects_done c.self.inside.front.index c.args.entry.now _ _ _ _ _ c.requires.entry bytes c.replace-objects.ensures.value c.self.invariant.2.1 c.in_ok-written.ensures.objects bounded))

pub invariant_of-self-2 : goal.invariant_of-self-2
invariant_of-self-2 c =
    let room = subst (λ (s : TargetState). HasRoom s.seats s.objects s.log) (sym c.self.view_is) (room_left c.args.self.now c.requires.load) in
    let put = ap (λ (f : Front). f.seats) c.seat.ensures in
    let bounded = seated_bounded c.self.inside.front.index c.self.inside.front.seats _ c.args.entry.now _ _ _ _ _ put c.replace-objects.ensures.value room c.in_ok-written.ensures.grows c.in_ok-append.ensures.grows in
    let bytes = subst IsBytes (c.bytes.ensures ∙ c.in_ok-payload.ensures) c.in_ok-append.ensures.bytes in (
      c.self.invariant.0,
      bounded,
      (
        seats_put c.self.inside.front.index c.self.inside.front.seats _ c.args.entry.now put c.requires.entry c.self.invariant.2.0,
        objects_done c.self.inside.front.index c.args.entry.now _ _ _ _ _ c.requires.entry bytes c.replace-objects.ensures.value c.self.invariant.2.1 c.in_ok-written.ensures.objects bounded,
      ),
    )
