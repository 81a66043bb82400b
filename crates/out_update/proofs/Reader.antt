-- What the reader of a request needs.
use Rattle.std.proofs.Common.{◌≡◌, ℕ, false, List, Some, refl}
use Rattle.std.specs.Int.{byte_len}
use Rattle.byte_grammar.specs.declared.verdict.Reason.TheVariants.{BadValue}
use Rattle.byte_grammar.specs.Grammar.{Grammar}
use Rattle.byte_grammar.specs.Fields.{refuse}
use Rattle.byte_grammar.specs.Numbers.{worth}
use Rattle.byte_grammar.specs.Steps.{width_at, next_at}
use Rattle.out_update.specs.declared.shape.BodyField.{BodyField}
use Rattle.out_update.specs.declared.shape.BodyField.TheVariants as body
use Rattle.out_update.specs.Bodies.{width_of, may_be}
use Rattle.out_update.specs.Reading.{at_body}
use Rattle.out_update.specs.Positions.{fields_from}

pub body_width : (f : BodyField) (k c : ℕ) (next : Grammar) → width_at (at_body k c (fields_from f) next) ≡ Some (byte_len (width_of f))
unfolding at_body
body_width body.Kind k c next = refl
body_width _ k c next = refl

-- a number of a body that isn't allowed
pub body_refuses : (f : BodyField) (k c p : ℕ) (next : Grammar) (bytes : List ℕ) → may_be k c f (worth (width_of f) bytes) ≡ false → next_at (at_body k c (fields_from f) next) p bytes ≡ refuse p BadValue
unfolding at_body
body_refuses body.Kind k c p next bytes h = rw h refl
body_refuses _ k c p next bytes h = rw h refl
