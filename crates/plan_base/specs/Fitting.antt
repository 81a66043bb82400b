-- Which results a question may have.
use Rattle.std.specs.Prelude.{ℕ, ◌==◌, ◌&&◌, ◌||◌, Bool, true, false, not, nat_le, Option, Some, None, Result, Ok, Err, if◌then◌else◌, List, [], length}
use Rattle.std.specs.Int.{w32}
use Rattle.byte_grammar.specs.Values.{number_at}
use Rattle.out_update.specs.declared.result.UpdateResult.{UpdateResult}
use Rattle.object_store.specs.declared.body.Body.{Body}
use Rattle.object_store.specs.declared.body.ObjectKind.{ObjectKind}
use Rattle.object_store.specs.declared.body.ObjectKind.TheVariants.{File, Directory, Stripe}
use Rattle.object_store.specs.declared.fault.ImageFault.{ImageFault}
use Rattle.object_store.specs.ImageReading.{body_at}
use Rattle.plan_base.specs.Listed.{rise_to_end}
use Rattle.plan_base.specs.declared.question.Question.{Question}
use Rattle.plan_base.specs.declared.question.Question.TheVariants as question

-- an error without bytes
abbrev pub fails : UpdateResult → ℕ → Bool
fails r code = (r.code == code) && (length r.body == 0)

abbrev pub is_stripe_kind : ObjectKind → Bool
is_stripe_kind File = false
is_stripe_kind Directory = false
is_stripe_kind Stripe = true

-- nothing but a zero is left
abbrev pub is_zero_left : Option (ℕ × List ℕ) → Bool
is_zero_left None = false
is_zero_left (Some n) = (n.0 == 0) && (length n.1 == 0)

abbrev pub has_zero : Option (ℕ × List ℕ) → Bool
has_zero None = false
has_zero (Some n) = is_zero_left (number_at w32 n.1)

-- the body of a node, a count, and a zero
abbrev pub is_node_text : Result (Body × List ℕ) ImageFault → Bool
is_node_text (Err e) = false
is_node_text (Ok b) = not (is_stripe_kind b.0.kind) && has_zero (number_at w32 b.1)

unfoldable pub fits_question : Question → UpdateResult → Bool
fits_question (question.Node fid) r = if r.code == 0 then is_node_text (body_at (length r.body) r.body) else fails r 2
fits_question (question.Value fid name) r = if r.code == 0 then nat_le (length r.body) 4096 else (fails r 2 || fails r 61)
fits_question (question.Entry directory layout name) r = if r.code == 0 then length r.body == 16 else (fails r 2 || fails r 20)
fits_question (question.Count directory layout index) r = if r.code == 0 then length r.body == 4 else fails r 20
fits_question (question.Names directory layout index) r = if r.code == 0 then rise_to_end 33 [] r.body else fails r 20

-- no question, no result
abbrev pub fits_asked : Option Question → UpdateResult → Bool
fits_asked None r = false
fits_asked (Some q) r = fits_question q r
