-- The updates of a record that is spelled are such as leave objects with an image.
use Rattle.std.proofs.Common.{ℕ, ◌==◌, ◌+◌, Bool, true, false, cond, List, [], ◌∷◌, ◌++◌, length, Some, refl, subst}
use Rattle.std.specs.Int.{w16, w32, w64}
use Rattle.std.specs.List.{AllByRecursion}
use Rattle.std.proofs.lemmas.List.{take_at, drop_at}
use Rattle.byte_grammar.specs.Numbers.{IsBytes, word, zeros}
use Rattle.byte_grammar.proofs.Bytes.{IsBytes-take, IsBytes-drop}
use Rattle.out_update.specs.declared.update.Update.{Update}
use Rattle.out_update.specs.Types.{code_of}
use Rattle.out_update.specs.Spelling.{param_text, params_text, fid_bytes, update_text, updates_text, request_magic, request_text, FitsUpdateOf}
use Rattle.update_record.specs.declared.operation.Record.{Record}
use Rattle.update_record.specs.Spelling.{part_text, parts_text, front_text, middle_text, record_text, part_for, FitsParts, FitsRecord}
use Rattle.target_state.specs.Rules.{updates_of, own_updates}
use Rattle.target_state.proofs.Stored.{IsSound}

-- ---- bytes one behind the other

left : (a b : List ℕ) → IsBytes (a ++ b) → IsBytes a
left a b h = subst IsBytes (take_at a b (length a) refl) (IsBytes-take (length a) (a ++ b) h)

right : (a b : List ℕ) → IsBytes (a ++ b) → IsBytes b
right a b h = subst IsBytes (drop_at a b (length a) refl) (IsBytes-drop (length a) (a ++ b) h)

param_bytes : (p : List ℕ) → IsBytes (param_text p) → IsBytes p
param_bytes p h = left p _ (right (zeros 4) _ (right (zeros 2) _ (right (word w16 (length p)) _ h)))

params_bytes : (ps : List (List ℕ)) → IsBytes (params_text ps) → AllByRecursion IsBytes ps
unfolding params_text
params_bytes [] h = tt
params_bytes (p ∷ ps) h = (param_bytes p (left (param_text p) (params_text ps) h), params_bytes ps (right (param_text p) (params_text ps) h))

update_bytes : (u : Update) → IsBytes (update_text u) → AllByRecursion IsBytes u.params
update_bytes u h =
    params_bytes u.params (right (fid_bytes u.fid) _ (right (word w64 u.batch) _ (right (word w32 0) _ (right (word w16 (length u.params)) _ (right (word w16 (code_of u.kind)) _ h)))))

-- ---- the updates of a part

all_sound : (owner : ℕ) (us : List Update) → AllByRecursion (FitsUpdateOf (Some owner)) us → IsBytes (updates_text us) → AllByRecursion IsSound us
unfolding updates_text
all_sound owner [] fits h = tt
all_sound owner (u ∷ us) fits h =
    let one = update_bytes u (left (update_text u) (updates_text us) h) in
    (record { fid = fits.0.fid; params = fits.0.params; bytes = one }, all_sound owner us fits.1 (right (update_text u) (updates_text us) h))

request_sound : (owner : ℕ) (us : List Update) → AllByRecursion (FitsUpdateOf (Some owner)) us → IsBytes (request_text us) → AllByRecursion IsSound us
request_sound owner us fits h = all_sound owner us fits (right (zeros 2) _ (right (word w16 (length us)) _ (right (word w32 request_magic) _ h)))

part_if : (t : ℕ) (part : ℕ × List Update) (parts : List (ℕ × List Update)) (b : Bool) → AllByRecursion IsSound part.1 → AllByRecursion IsSound (updates_of (part_for t parts)) → AllByRecursion IsSound (updates_of (cond b (Some part.1) (part_for t parts)))
part_if t part parts true one all = one
part_if t part parts false one all = all

parts_sound : (batch least : ℕ) (parts : List (ℕ × List Update)) (t : ℕ) → FitsParts batch least parts → IsBytes (parts_text parts) → AllByRecursion IsSound (updates_of (part_for t parts))
unfolding FitsParts parts_text
parts_sound batch least [] t fits h = tt
parts_sound batch least (part ∷ parts) t fits h =
    let here = right (word w32 (length (request_text part.1))) _ (right (word w32 part.0) _ (left (part_text part) (parts_text parts) h)) in
    part_if t part parts (part.0 == t) (request_sound batch part.1 fits.0.each here) (parts_sound batch (part.0 + 1) parts t fits.1 (right (part_text part) (parts_text parts) h))

pub own_sound : (index : ℕ) (r : Record) → FitsRecord r → IsBytes (record_text r) → AllByRecursion IsSound (own_updates index r)
own_sound index r fits h = parts_sound r.id.batch 0 r.parts index fits.each (right (middle_text r) _ (right (front_text r) _ h))
