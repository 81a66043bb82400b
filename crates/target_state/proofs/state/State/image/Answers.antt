use Rattle.std.proofs.Common.{◌≡◌, ◌≤◌, ◌∙◌, ◌++◌, ℕ, List, length, ap, sym, subst}
use Rattle.std.specs.Int.{w32}
use Rattle.byte_grammar.specs.Numbers.{word, zeros}
use Rattle.llog_store.specs.Log.{Log, log_text}
use Rattle.target_state.specs.State.{TargetState}
use Rattle.target_state.specs.Image.{state_text, most_image}
use Rattle.target_state.proofs.Lengths.{image_is}
use Rattle.target_state.proofs.state.State.image.Goals as goal

pub returns-clause-value : goal.returns-clause-value
returns-clause-value c =
    let s = c.self.inside in
    let head = c.log_head.ensures ∙ ap (λ (v : TargetState). word w32 (length (log_text v.log)) ++ zeros 4) (sym c.self.view_is) in
    let text = c.in_ok-add_log.ensures ∙ ap (λ (l : Log). c.append.new.self ++ log_text l) c.log.ensures in
    subst (λ (v : TargetState). c.add_log.new.out ≡ state_text v) c.self.view_is
    (image_is s.front s.objects s.log c.new-image.result c.encode.new.out c.encode-2.new.out c.append.new.self c.add_log.new.out c.log_head.result
    c.new-image.ensures c.in_ok-encode.ensures.ok c.in_ok-encode-2.ensures.ok c.in_ok-append.ensures.ok text head)

pub returns-clause-fits : goal.returns-clause-fits
returns-clause-fits c = subst (λ (l : List ℕ). length l ≤ most_image) (sym (returns-clause-value c)) c.fits_a_disk.ensures
