use Rattle.std.proofs.Common.{refl, sym, ◌∙◌}
use Rattle.std.proofs.lemmas.Bool.{true≢false}
use Rattle.target_state.proofs.Indexing.{is_alive, cancelled_listed, done_one, none_done}
use Rattle.target_state.proofs.indexed.cancel_least.Goals as goal

pub unreachable-requires : goal.unreachable-requires
unreachable-requires c =
    let alive = is_alive c.args.live.now c.in-Some.record c.args.log.now c.requires c.in-Some.ensures.listed in
    true≢false (sym alive ∙ c.in-Err.ensures.not_live)

pub returns-in-None-clause-none : goal.returns-in-None-clause-none
returns-in-None-clause-none c = λ _. none_done c.args.live.now c.args.log.now c.args.master c.args.mark c.requires (λ q same low. c.in-None.ensures.none refl q (same ∙ sym c.from.ensures) low)

pub returns-in-Ok-clause-listed : goal.returns-in-Ok-clause-listed
returns-in-Ok-clause-listed c =
    cancelled_listed c.args.live.now c.remove.new.self c.in-Some.record c.args.log.now c.cancel.new.self c.next-next.ensures.is_log c.requires c.in-Some.ensures.listed c.remove.ensures.updates c.in-Ok.ensures.ok

pub returns-in-Ok-clause-left : goal.returns-in-Ok-clause-left
returns-in-Ok-clause-left c =
    done_one c.args.live.now c.in-Some.record c.args.log.now c.cancel.new.self c.args.master c.args.mark c.next-next.ensures.is_log c.requires c.in-Some.ensures.listed (c.in-Some.ensures.done.0 ∙ c.from.ensures) c.in-Some.ensures.done.1 c.in-Ok.ensures.ok
