-- The value that bytes spell, where they spell one. Nothing is judged here.
use Rattle.std.specs.Prelude.{ℕ, List, Option, Some, None}
use Rattle.std.specs.Int.{w16, w32, w64}
use Rattle.fid_space.specs.declared.fid.Fid.{Fid}
use Rattle.byte_grammar.specs.Numbers.{padding}
use Rattle.byte_grammar.specs.Values.{◌>>=◌, part_at, number_at, many}
use Rattle.out_update.specs.declared.update.Update.{Update}
use Rattle.out_update.specs.declared.result.UpdateResult.{UpdateResult}
use Rattle.out_update.specs.Types.{kind_at}

unfoldable pub param_value : List ℕ → Option (List ℕ × List ℕ)
param_value bytes = do
  size ← number_at w16 bytes
  space ← part_at 6 size.1
  param ← part_at size.0 space.1
  end ← part_at (padding size.0) param.1
  Some (param.0, end.1)

unfoldable pub fid_value : List ℕ → Option (Fid × List ℕ)
fid_value bytes = do
  seq ← number_at w64 bytes
  oid ← number_at w32 seq.1
  ver ← number_at w32 oid.1
  Some (record { seq = seq.0; oid = oid.0; ver = ver.0 }, ver.1)

unfoldable pub update_value : List ℕ → Option (Update × List ℕ)
update_value bytes = do
  code ← number_at w16 bytes
  kind ← kind_at code.0
  count ← number_at w16 code.1
  flags ← part_at 4 count.1
  batch ← number_at w64 flags.1
  fid ← fid_value batch.1
  params ← many param_value count.0 fid.1
  Some (record { kind = kind; batch = batch.0; fid = fid.0; params = params.0 }, params.1)

-- a request, and the bytes behind it
unfoldable pub request_at : List ℕ → Option (List Update × List ℕ)
request_at bytes = do
  magic ← part_at 4 bytes
  count ← number_at w16 magic.1
  space ← part_at 2 count.1
  many update_value count.0 space.1

unfoldable pub result_value : List ℕ → Option (UpdateResult × List ℕ)
result_value bytes = do
  code ← number_at w32 bytes
  size ← number_at w32 code.1
  body ← part_at size.0 size.1
  end ← part_at (padding size.0) body.1
  Some (record { code = code.0; body = body.0 }, end.1)

-- a reply, and the bytes behind it
unfoldable pub reply_at : List ℕ → Option (List UpdateResult × List ℕ)
reply_at bytes = do
  magic ← part_at 4 bytes
  count ← number_at w16 magic.1
  space ← part_at 2 count.1
  many result_value count.0 space.1

abbrev pub front : {X : Type 0} → Option (X × List ℕ) → Option X
front None = None
front (Some x) = Some x.0

abbrev pub request_value : List ℕ → Option (List Update)
request_value bytes = front (request_at bytes)

abbrev pub reply_value : List ℕ → Option (List UpdateResult)
reply_value bytes = front (reply_at bytes)
