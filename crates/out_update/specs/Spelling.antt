-- Requests, and the one spelling of each.
use Rattle.std.specs.Prelude.{◌≡◌, ℕ, ◌^◌, ◌<◌, ◌≤◌, true, List, [], ◌∷◌, ◌++◌, length, Option, None}
use Rattle.std.specs.List.{flat_map, AllByRecursion}
use Rattle.std.specs.Int.{w16, w32, w64}
use Rattle.fid_space.specs.declared.fid.Fid.{Fid}
use Rattle.fid_space.specs.FidText.{IsFid}
use Rattle.byte_grammar.specs.Numbers.{word, zeros, padding}
use Rattle.out_update.specs.declared.update.Update.{Update}
use Rattle.out_update.specs.declared.shape.Shape.{Shape}
use Rattle.out_update.specs.declared.shape.Shape.TheVariants as shape
use Rattle.out_update.specs.Types.{code_of, shapes, allows, may_stand, batch_fits}
use Rattle.out_update.specs.Bodies.{IsBody}
use Rattle.out_update.specs.Names.{name_fault}

-- a parameter: its length, zeros, its bytes, and zeros up to a multiple of 8
abbrev pub param_text : List ℕ → List ℕ
param_text p = word w16 (length p) ++ (zeros 2 ++ (zeros 4 ++ (p ++ zeros (padding (length p)))))

abbrev pub fid_bytes : Fid → List ℕ
fid_bytes f = word w64 f.seq ++ (word w32 f.oid ++ word w32 f.ver)

unfoldable pub params_text : List (List ℕ) → List ℕ
params_text ps = flat_map param_text ps

-- an update: type, count of parameters, flags, batch, FID, and the parameters
abbrev pub update_text : Update → List ℕ
update_text u = word w16 (code_of u.kind) ++ (word w16 (length u.params) ++ (word w32 0 ++ (word w64 u.batch ++ (fid_bytes u.fid ++ params_text u.params))))

unfoldable pub updates_text : List Update → List ℕ
updates_text us = flat_map update_text us

abbrev pub request_magic : ℕ
request_magic = 0xbdde0001

-- a request: magic, count, zeros, and the updates
abbrev pub request_text : List Update → List ℕ
request_text us = word w32 request_magic ++ (word w16 (length us) ++ (zeros 2 ++ updates_text us))

-- ---- what has a spelling

abbrev pub FitsContent : Shape → List ℕ → Type 0
FitsContent shape.Body p = IsBody p
FitsContent shape.Name p = name_fault p ≡ None
FitsContent _ p = Unit {0}

pub record FitsParam (s : Shape) (p : List ℕ) : Type 0 where
  pub length_allowed : allows s (length p) ≡ true
  pub content : FitsContent s p

-- one parameter for each of the shapes
unfoldable pub FitsParams : List Shape → List (List ℕ) → Type 0
FitsParams [] [] = Unit {0}
FitsParams [] (p ∷ ps) = ⊥
FitsParams (s ∷ ss) [] = ⊥
FitsParams (s ∷ ss) (p ∷ ps) = FitsParam s p × FitsParams ss ps

-- an update of a request, or of a part of the record with this batch
pub record FitsUpdateOf (owner : Option ℕ) (u : Update) : Type 0 where
  pub stands : may_stand owner u.kind ≡ true
  pub batch : u.batch < 2 ^ 64
  pub batch_set : batch_fits owner u.kind u.batch ≡ true
  pub fid : IsFid u.fid
  pub params : FitsParams (shapes u.kind) u.params

abbrev pub FitsUpdate : Update → Type 0
FitsUpdate u = FitsUpdateOf None u

pub record FitsRequest (us : List Update) : Type 0 where
  pub count : length us ≤ 128
  pub each : AllByRecursion FitsUpdate us
  pub size : length (request_text us) ≤ 24576

-- the bytes are the request's spelling
abbrev pub spells : List Update → List ℕ → Type 0
spells us bytes = FitsRequest us × (bytes ≡ request_text us)
