-- The fields of a request, in the order in which they are judged. Owner is None for a request, and the
-- batch of its record for a part of one.
use Rattle.std.specs.Prelude.{ℕ, zero, suc, ◌==◌, nat_le, if◌then◌else◌, List, [], ◌∷◌, length, Option, Some, None}
use Rattle.std.specs.Int.{w16, w32, w64}
use Rattle.byte_grammar.specs.declared.verdict.Reason.TheVariants.{BadMagic, BadType, BadCount, BadLength, BadValue}
use Rattle.byte_grammar.specs.Grammar.{Grammar}
use Rattle.byte_grammar.specs.Grammar.Grammar.{Ends, Field}
use Rattle.byte_grammar.specs.Numbers.{worth, padding}
use Rattle.byte_grammar.specs.Fields.{refuse, number, unless_bad, nothing, anything}
use Rattle.out_update.specs.declared.update.Kind.{Kind}
use Rattle.out_update.specs.declared.shape.Shape.{Shape}
use Rattle.out_update.specs.declared.shape.Shape.TheVariants as shape
use Rattle.out_update.specs.declared.shape.BodyField.{BodyField}
use Rattle.out_update.specs.Types.{kind_at, shapes, allows, may_stand, batch_fits}
use Rattle.out_update.specs.Bodies.{width_of, may_be, kind_after, count_after, body_fields}
use Rattle.out_update.specs.Names.{name_fault}
use Rattle.out_update.specs.Spelling.{request_magic}

-- the numbers of a body, each a field of its own
unfoldable pub at_body : ℕ → ℕ → List BodyField → Grammar → Grammar
at_body k c [] next = next
at_body k c (f ∷ fs) next = number (width_of f) BadValue (may_be k c f) (λ n. at_body (kind_after k f n) (count_after c f n) fs next)

-- the bytes of a name; the place of a fault is the bad byte
abbrev pub at_name : ℕ → Grammar → Grammar
at_name n next = Field n (λ place bytes. unless_bad (name_fault bytes) place BadValue next)

-- the n bytes of a parameter
unfoldable pub at_content : Shape → ℕ → Grammar → Grammar
at_content shape.Body n next = at_body 0 0 body_fields next
at_content shape.Name n next = at_name n next
at_content _ n next = anything n next

unfoldable pub at_param : Shape → Grammar → Grammar
at_param s next = number w16 BadLength (allows s) (λ n. nothing 2 (nothing 4 (at_content s n (nothing (padding n) next))))

unfoldable pub at_params : List Shape → Grammar → Grammar
at_params [] next = next
at_params (s ∷ ss) next = at_param s (at_params ss next)

unfoldable pub at_fid : Kind → Grammar → Grammar
at_fid k next = anything 16 (at_params (shapes k) next)

unfoldable pub at_batch : Option ℕ → Kind → Grammar → Grammar
at_batch owner k next = number w64 BadValue (batch_fits owner k) (λ _. at_fid k next)

unfoldable pub at_flags : Option ℕ → Kind → Grammar → Grammar
at_flags owner k next = number w32 BadValue (λ n. n == 0) (λ _. at_batch owner k next)

-- behind the type
unfoldable pub at_head : Option ℕ → Kind → Grammar → Grammar
at_head owner k next = number w16 BadCount (λ n. n == length (shapes k)) (λ _. at_flags owner k next)

abbrev pub by_kind : Option ℕ → Option Kind → ℕ → Grammar → Grammar
by_kind owner None place next = refuse place BadType
by_kind owner (Some k) place next = if may_stand owner k then at_head owner k next else refuse place BadValue

unfoldable pub at_update : Option ℕ → Grammar → Grammar
at_update owner next = Field 2 (λ place bytes. by_kind owner (kind_at (worth w16 bytes)) place next)

-- so many updates, and what follows them
unfoldable pub at_updates : Option ℕ → ℕ → Grammar → Grammar
at_updates owner zero next = next
at_updates owner (suc n) next = at_update owner (at_updates owner n next)

unfoldable pub at_count : Option ℕ → Grammar → Grammar
at_count owner next = number w16 BadCount (λ n. nat_le n 128) (λ n. nothing 2 (at_updates owner n next))

-- a request, and what follows it
unfoldable pub request_then : Option ℕ → Grammar → Grammar
request_then owner next = number w32 BadMagic (λ n. n == request_magic) (λ _. at_count owner next)

-- a request alone
unfoldable pub request : Grammar
request = request_then None Ends
