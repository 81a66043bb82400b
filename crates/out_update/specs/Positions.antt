-- Where a reader of requests or replies stands, and what is still to come there before next.
use Rattle.std.specs.Prelude.{ℕ, List, [], ◌∷◌, Option, Some, None, drop, Bool, true, false}
use Rattle.byte_grammar.specs.Grammar.{Grammar}
use Rattle.byte_grammar.specs.Grammar.Grammar.{Ends}
use Rattle.byte_grammar.specs.Numbers.{padding}
use Rattle.byte_grammar.specs.Fields.{nothing, anything}
use Rattle.out_update.specs.declared.shape.Shape.{Shape}
use Rattle.out_update.specs.declared.shape.BodyField.{BodyField}
use Rattle.out_update.specs.declared.shape.BodyField.TheVariants as body
use Rattle.out_update.specs.declared.request.After.{After}
use Rattle.out_update.specs.declared.request.RequestPosition.{RequestPosition}
use Rattle.out_update.specs.declared.request.RequestPosition.TheVariants as at
use Rattle.out_update.specs.declared.reply.ReplyPosition.{ReplyPosition}
use Rattle.out_update.specs.declared.reply.ReplyPosition.TheVariants as reply
use Rattle.out_update.specs.Bodies.{body_fields}
use Rattle.out_update.specs.Reading.{at_body, at_name, at_content, at_param, at_params, at_fid, at_batch, at_flags, at_head, at_update, at_updates, at_count, request_then}
use Rattle.out_update.specs.Replies.{at_length, at_result, at_results, at_reply_count, reply_then}

-- a number of a body and those behind it
abbrev pub fields_from : BodyField → List BodyField
fields_from body.Kind = drop 0 body_fields
fields_from body.Mode = drop 1 body_fields
fields_from body.Uid = drop 2 body_fields
fields_from body.Gid = drop 3 body_fields
fields_from body.Links = drop 4 body_fields
fields_from body.Count = drop 5 body_fields
fields_from body.Start = drop 6 body_fields
fields_from body.Zero = drop 7 body_fields
fields_from body.Generation = drop 8 body_fields
fields_from body.Seq = drop 9 body_fields
fields_from body.Oid = drop 10 body_fields
fields_from body.Ver = drop 11 body_fields
fields_from body.Index = drop 12 body_fields

abbrev pub as_list : Option Shape → List Shape
as_list None = []
as_list (Some s) = s ∷ []

abbrev pub after : Option ℕ → Grammar → After → Grammar
after owner next a = at_params (as_list a.second) (at_updates owner a.left next)

abbrev pub padded : Option ℕ → Grammar → ℕ → After → Grammar
padded owner next n a = nothing (padding n) (after owner next a)

abbrev pub at_position : Option ℕ → Grammar → RequestPosition → Grammar
at_position owner next at.Magic = request_then owner next
at_position owner next at.Count = at_count owner next
at_position owner next (at.Reserved count) = nothing 2 (at_updates owner count next)
at_position owner next (at.Type left) = at_update owner (at_updates owner left next)
at_position owner next (at.Parameters k left) = at_head owner k (at_updates owner left next)
at_position owner next (at.Flags k left) = at_flags owner k (at_updates owner left next)
at_position owner next (at.Batch k left) = at_batch owner k (at_updates owner left next)
at_position owner next (at.Fid k left) = at_fid k (at_updates owner left next)
at_position owner next (at.Length s a) = at_param s (after owner next a)
at_position owner next (at.ZeroTwo s n a) = nothing 2 (nothing 4 (at_content s n (padded owner next n a)))
at_position owner next (at.ZeroFour s n a) = nothing 4 (at_content s n (padded owner next n a))
at_position owner next (at.Body k c f n a) = at_body k c (fields_from f) (padded owner next n a)
at_position owner next (at.Name n a) = at_name n (padded owner next n a)
at_position owner next (at.Plain n a) = anything n (padded owner next n a)
at_position owner next (at.Padding n a) = padded owner next n a
at_position owner next at.End = next

-- a request alone
abbrev pub at_alone : RequestPosition → Grammar
at_alone p = at_position None Ends p

-- where a field may have no byte
abbrev pub rank_of : RequestPosition → ℕ
rank_of (at.Name n a) = 2
rank_of (at.Plain n a) = 2
rank_of (at.Padding n a) = 1
rank_of _ = 0

-- in front of a parameter's bytes
abbrev pub is_head : RequestPosition → Bool
is_head at.Magic = true
is_head at.Count = true
is_head (at.Type left) = true
is_head (at.Parameters k left) = true
is_head (at.Flags k left) = true
is_head (at.Batch k left) = true
is_head (at.Fid k left) = true
is_head (at.Length s a) = true
is_head _ = false

-- a field of an update in front of its parameters
abbrev pub is_update_head : RequestPosition → Bool
is_update_head (at.Type left) = true
is_update_head (at.Parameters k left) = true
is_update_head (at.Flags k left) = true
is_update_head (at.Batch k left) = true
is_update_head (at.Fid k left) = true
is_update_head _ = false

-- ---- replies

abbrev pub at_reply_position : Grammar → ReplyPosition → Grammar
at_reply_position next reply.Magic = reply_then next
at_reply_position next reply.Count = at_reply_count next
at_reply_position next (reply.Reserved count) = nothing 2 (at_results count next)
at_reply_position next (reply.Code left) = at_result (at_results left next)
at_reply_position next (reply.Length left) = at_length (at_results left next)
at_reply_position next (reply.Body n left) = anything n (nothing (padding n) (at_results left next))
at_reply_position next (reply.Padding n left) = nothing (padding n) (at_results left next)
at_reply_position next reply.End = next

-- a reply alone
abbrev pub at_reply_alone : ReplyPosition → Grammar
at_reply_alone p = at_reply_position Ends p

abbrev pub reply_rank : ReplyPosition → ℕ
reply_rank (reply.Body n left) = 2
reply_rank (reply.Padding n left) = 1
reply_rank _ = 0
