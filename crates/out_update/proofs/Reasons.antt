-- The reasons that requests and replies are refused for.
use Rattle.std.proofs.Common.{◌≡◌, ℕ, zero, suc, true, List, [], ◌∷◌, length, Option, Some, None, refl, ◌==◌}
use Rattle.std.specs.Prelude.{nat_le}
use Rattle.std.specs.Int.{w16, w32, w64}
use Rattle.byte_grammar.specs.declared.verdict.Reason.TheVariants as reason
use Rattle.byte_grammar.specs.declared.verdict.Refusal.{Refusal}
use Rattle.byte_grammar.specs.declared.verdict.Verdict.TheVariants as verdict
use Rattle.byte_grammar.specs.Grammar.{Grammar, Only}
use Rattle.byte_grammar.specs.Grammar.Grammar.{Ends}
use Rattle.byte_grammar.specs.Numbers.{worth, padding}
use Rattle.byte_grammar.specs.Fields.{number, nothing, anything}
use Rattle.byte_grammar.proofs.Reasons.{named_reason, if_only, unless_only, number_only, nothing_only, anything_only}
use Rattle.out_update.specs.declared.update.Kind.{Kind}
use Rattle.out_update.specs.declared.shape.Shape.{Shape}
use Rattle.out_update.specs.declared.shape.Shape.TheVariants as shape
use Rattle.out_update.specs.declared.shape.BodyField.{BodyField}
use Rattle.out_update.specs.Types.{kind_at, shapes, allows, may_stand, batch_fits}
use Rattle.out_update.specs.Bodies.{width_of, may_be, kind_after, count_after, body_fields}
use Rattle.out_update.specs.Names.{name_fault}
use Rattle.out_update.specs.Spelling.{request_magic}
use Rattle.out_update.specs.Reading.{at_body, at_name, at_content, at_param, at_params, at_fid, at_batch, at_flags, at_head, by_kind, at_update, at_updates, at_count, request_then, request}
use Rattle.out_update.specs.Replies.{reply_magic, is_code, at_length, at_result, at_results, at_reply_count, reply_then, reply}
use Rattle.out_update.specs.Decoding.{judge_request, judge_reply, is_update_reason}

abbrev Mine : Grammar → Type 0
Mine g = Only is_update_reason g

body_only : (k c : ℕ) (fs : List BodyField) (next : Grammar) → Mine next → Mine (at_body k c fs next)
unfolding at_body
body_only k c [] next on = on
body_only k c (f ∷ fs) next on = number_only is_update_reason (width_of f) reason.BadValue (may_be k c f) (λ n. at_body (kind_after k f n) (count_after c f n) fs next) refl (λ n. body_only (kind_after k f n) (count_after c f n) fs next on)

name_only : (n : ℕ) (next : Grammar) → Mine next → Mine (at_name n next)
unfolding Only
name_only n next on = λ place bytes. unless_only is_update_reason (name_fault bytes) place reason.BadValue next refl on

content_only : (s : Shape) (n : ℕ) (next : Grammar) → Mine next → Mine (at_content s n next)
unfolding at_content
content_only shape.Body n next on = body_only 0 0 body_fields next on
content_only shape.Name n next on = name_only n next on
content_only _ n next on = anything_only is_update_reason n next on

param_only : (s : Shape) (next : Grammar) → Mine next → Mine (at_param s next)
unfolding at_param
param_only s next on =
    number_only is_update_reason w16 reason.BadLength (allows s) (λ n. nothing 2 (nothing 4 (at_content s n (nothing (padding n) next)))) refl
    (λ n. nothing_only is_update_reason 2 _ refl (nothing_only is_update_reason 4 _ refl (content_only s n (nothing (padding n) next) (nothing_only is_update_reason (padding n) next refl on))))

params_only : (ss : List Shape) (next : Grammar) → Mine next → Mine (at_params ss next)
unfolding at_params
params_only [] next on = on
params_only (s ∷ ss) next on = param_only s (at_params ss next) (params_only ss next on)

pub head_only : (owner : Option ℕ) (k : Kind) (next : Grammar) → Mine next → Mine (at_head owner k next)
unfolding at_head at_flags at_batch at_fid
head_only owner k next on =
    let g5 = at_params (shapes k) next in
    let g4 = anything 16 g5 in
    let g3 = number w64 reason.BadValue (batch_fits owner k) (λ n. g4) in
    let g2 = number w32 reason.BadValue (λ n. n == 0) (λ n. g3) in
    let a = anything_only is_update_reason 16 g5 (params_only (shapes k) next on) in
    let b = number_only is_update_reason w64 reason.BadValue (batch_fits owner k) (λ n. g4) refl (λ n. a) in
    let c = number_only is_update_reason w32 reason.BadValue (λ n. n == 0) (λ n. g3) refl (λ n. b) in
    number_only is_update_reason w16 reason.BadCount (λ n. n == length (shapes k)) (λ n. g2) refl (λ n. c)

kind_only : (owner : Option ℕ) (o : Option Kind) (place : ℕ) (next : Grammar) → Mine next → Mine (by_kind owner o place next)
unfolding Only
kind_only owner None place next on = refl
kind_only owner (Some k) place next on = if_only is_update_reason (may_stand owner k) (at_head owner k next) place reason.BadValue refl (head_only owner k next on)

updates_only : (owner : Option ℕ) (n : ℕ) (next : Grammar) → Mine next → Mine (at_updates owner n next)
unfolding at_updates at_update Only
updates_only owner zero next on = on
updates_only owner (suc n) next on = λ place bytes. kind_only owner (kind_at (worth w16 bytes)) place (at_updates owner n next) (updates_only owner n next on)

pub request_only : (owner : Option ℕ) (next : Grammar) → Mine next → Mine (request_then owner next)
unfolding request_then at_count
request_only owner next on =
    let count = number_only is_update_reason w16 reason.BadCount (λ n. nat_le n 128) (λ n. nothing 2 (at_updates owner n next)) refl (λ n. nothing_only is_update_reason 2 (at_updates owner n next) refl (updates_only owner n next on)) in
    number_only is_update_reason w32 reason.BadMagic (λ n. n == request_magic) (λ _. at_count owner next) refl (λ n. count)

result_only : (next : Grammar) → Mine next → Mine (at_result next)
unfolding at_result at_length
result_only next on =
    let size = number_only is_update_reason w32 reason.BadLength (λ n. nat_le n 16384) (λ n. anything n (nothing (padding n) next)) refl (λ n. anything_only is_update_reason n _ (nothing_only is_update_reason (padding n) next refl on)) in
    number_only is_update_reason w32 reason.BadValue is_code (λ _. at_length next) refl (λ n. size)

results_only : (n : ℕ) (next : Grammar) → Mine next → Mine (at_results n next)
unfolding at_results
results_only zero next on = on
results_only (suc n) next on = result_only (at_results n next) (results_only n next on)

pub reply_only : (next : Grammar) → Mine next → Mine (reply_then next)
unfolding reply_then at_reply_count
reply_only next on =
    let count = number_only is_update_reason w16 reason.BadCount (λ n. nat_le n 128) (λ n. nothing 2 (at_results n next)) refl (λ n. nothing_only is_update_reason 2 (at_results n next) refl (results_only n next on)) in
    number_only is_update_reason w32 reason.BadMagic (λ n. n == reply_magic) (λ _. at_reply_count next) refl (λ n. count)

pub ends_only : Mine Ends
unfolding Only
ends_only = tt

pub request_reason : (bytes : List ℕ) (r : Refusal) → judge_request bytes ≡ verdict.Refused r → is_update_reason r.reason ≡ true
unfolding request
request_reason bytes r e = named_reason is_update_reason 24576 request 0 bytes r refl (request_only None Ends ends_only) e

pub reply_reason : (bytes : List ℕ) (r : Refusal) → judge_reply bytes ≡ verdict.Refused r → is_update_reason r.reason ≡ true
unfolding reply
reply_reason bytes r e = named_reason is_update_reason 24576 reply 0 bytes r refl (reply_only Ends ends_only) e
