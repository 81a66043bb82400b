-- The field that a reader inside a part comes to.
use Rattle.std.proofs.Common.{◌≡◌, ◌≢◌, ℕ, Option, Some, None, refl, sym, ap, ◌∙◌}
use Rattle.std.specs.Prelude.{◌<◌, Result, Ok, Err, IfOk}
use Rattle.byte_grammar.specs.Grammar.{Grammar}
use Rattle.byte_grammar.specs.Grammar.Grammar.{Ends}
use Rattle.byte_grammar.specs.Steps.{width_at}
use Rattle.out_update.specs.declared.request.RequestPosition.{RequestPosition}
use Rattle.out_update.specs.declared.request.RequestPosition.TheVariants as at
use Rattle.out_update.specs.Reading.{at_param, at_fid, at_batch, at_flags, at_head, at_update, at_count, request_then}
use Rattle.out_update.specs.Positions.{at_position, padded}
use Rattle.out_update.proofs.Reader.{body_width}
use Rattle.update_record.specs.declared.head.HeadPosition.{HeadPosition}
use Rattle.update_record.specs.declared.head.HeadPosition.TheVariants as head
use Rattle.update_record.specs.Reading.{length_was}
use Rattle.update_record.specs.MessageReading as messages
use Rattle.update_record.specs.MessagePositions.{at_message}

-- at the end of the request the check of its length comes, which has no byte
abbrev pub or_check : Option ℕ → Option ℕ
or_check None = Some 0
or_check (Some w) = Some w

pub inner_width : (owner : Option ℕ) (field len : ℕ) (next : Grammar) (p : RequestPosition) → width_at (at_position owner (length_was field len next) p) ≡ or_check (width_at (at_position owner Ends p))
unfolding at_param at_fid at_batch at_flags at_head at_update at_count request_then length_was
inner_width owner field len next (at.Body k c f n a) = body_width f k c (padded owner (length_was field len next) n a) ∙ ap or_check (sym (body_width f k c (padded owner Ends n a)))
inner_width owner field len next at.End = refl
inner_width owner field len next _ = refl

pub inside_width : (owner : Option ℕ) (field len : ℕ) (next : Grammar) (p : RequestPosition) (n : ℕ) → p ≢ at.End → width_at (at_position owner (length_was field len next) p) ≡ Some n → width_at (at_position owner Ends p) ≡ Some n
unfolding at_param at_fid at_batch at_flags at_head at_update at_count request_then length_was
inside_width owner field len next (at.Body k c f w a) n h e = body_width f k c (padded owner Ends w a) ∙ sym (body_width f k c (padded owner (length_was field len next) w a)) ∙ e
inside_width owner field len next at.End n h e = absurd (h refl)
inside_width owner field len next _ n h e = e

-- each field of a head has bytes
pub head_wide : (p : HeadPosition) → width_at (at_message p) ≡ Some 0 → ⊥
unfolding messages.at_size messages.at_value messages.at_ask messages.at_attempt messages.at_number messages.at_receiver messages.at_sender messages.at_epoch messages.at_kind messages.whole_head
head_wide head.Magic e = cc
head_wide _ e = cc

pub no_empty : {A B : Type 0} (r : Result A B) (n : ℕ) → (n ≡ 0 → ⊥) → IfOk r (λ _. n ≡ 0 → 0 < 0)
no_empty (Ok x) n h = λ e. absurd (h e)
no_empty (Err x) n h = tt
