-- The value of a spelling is the value that was spelled.
use Rattle.std.proofs.Common.{◌≡◌, ℕ, suc, ◌+◌, ◌^◌, ◌≤◌, ◌<◌, List, [], ◌∷◌, ◌++◌, length, Option, Some, None, refl, sym, ap, subst, ◌∙◌, append_assoc, arith, length-append}
use Rattle.std.specs.List.{AllByRecursion}
use Rattle.std.specs.Int.{w16, w32, w64}
use Rattle.std.proofs.lemmas.List.Concat.{flat_map-cons}
use Rattle.fid_space.specs.declared.fid.Fid.{Fid}
use Rattle.fid_space.specs.FidText.{IsFid}
use Rattle.byte_grammar.specs.Numbers.{word, zeros, padding}
use Rattle.byte_grammar.specs.Values.{many}
use Rattle.byte_grammar.proofs.Bytes.{wide16, wide32, wide64, length-zeros}
use Rattle.byte_grammar.proofs.Again.{part_again, number_back}
use Rattle.out_update.specs.declared.update.Update.{Update}
use Rattle.out_update.specs.declared.shape.Shape.{Shape}
use Rattle.out_update.specs.Types.{code_of, shapes}
use Rattle.out_update.specs.Spelling.{param_text, fid_bytes, params_text, update_text, updates_text, request_text, request_magic, FitsParam, FitsParams, FitsUpdateOf, FitsRequest}
use Rattle.out_update.specs.Values.{param_value, fid_value, update_value, request_at, request_value, front}
use Rattle.out_update.proofs.Requests.{allowed_below, code_fits, kind_again, few_shapes, length-params}

param_back : (s : Shape) (x rest : List ℕ) → FitsParam s x → param_value (param_text x ++ rest) ≡ Some (x, rest)
unfolding param_value
param_back s x rest h =
    let n = length x in
    let e : param_text x ++ rest ≡ word w16 n ++ ((zeros 2 ++ zeros 4) ++ (x ++ (zeros (padding n) ++ rest))) = simp append_assoc in
    ap param_value e
    ∙ rw (
      number_back w16 wide16 n ((zeros 2 ++ zeros 4) ++ (x ++ (zeros (padding n) ++ rest))) (allowed_below s n h.length_allowed),
      part_again 6 (zeros 2 ++ zeros 4) (x ++ (zeros (padding n) ++ rest)) (length-append (zeros 2) (zeros 4) ∙ ap (λ m. m + length (zeros 4)) (length-zeros 2) ∙ ap (λ m. 2 + m) (length-zeros 4)),
      part_again n x (zeros (padding n) ++ rest) refl,
      part_again (padding n) (zeros (padding n)) rest (length-zeros (padding n)),
    ) refl

params_back : (ss : List Shape) (ps : List (List ℕ)) (rest : List ℕ) → FitsParams ss ps → many param_value (length ps) (params_text ps ++ rest) ≡ Some (ps, rest)
unfolding many params_text FitsParams
params_back [] [] rest h = refl
params_back [] (x ∷ ps) rest h = absurd h
params_back (s ∷ ss) [] rest h = absurd h
params_back (s ∷ ss) (x ∷ ps) rest h =
    let e : params_text (x ∷ ps) ++ rest ≡ param_text x ++ (params_text ps ++ rest) = ap (λ (t : List ℕ). t ++ rest) (flat_map-cons param_text x ps) ∙ append_assoc (param_text x) (params_text ps) rest in
    ap (many param_value (suc (length ps))) e ∙ rw (param_back s x (params_text ps ++ rest) h.0, params_back ss ps rest h.1) refl

-- the 16 bytes of a FID
pub fid_back : (f : Fid) (rest : List ℕ) → IsFid f → fid_value (fid_bytes f ++ rest) ≡ Some (f, rest)
unfolding fid_value
fid_back f rest h =
    let e : fid_bytes f ++ rest ≡ word w64 f.seq ++ (word w32 f.oid ++ (word w32 f.ver ++ rest)) = simp append_assoc in
    ap fid_value e ∙ rw (number_back w64 wide64 f.seq (word w32 f.oid ++ (word w32 f.ver ++ rest)) h.0, number_back w32 wide32 f.oid (word w32 f.ver ++ rest) h.1, number_back w32 wide32 f.ver rest h.2) refl

update_back : (owner : Option ℕ) (u : Update) (rest : List ℕ) → FitsUpdateOf owner u → update_value (update_text u ++ rest) ≡ Some (u, rest)
unfolding update_value
update_back owner u rest h =
    let code = code_of u.kind in
    let n = length u.params in
    let r5 = params_text u.params ++ rest in
    let r4 = fid_bytes u.fid ++ r5 in
    let r3 = word w64 u.batch ++ r4 in
    let r2 = word w32 0 ++ r3 in
    let r1 = word w16 n ++ r2 in
    let e : update_text u ++ rest ≡ word w16 code ++ r1 = simp append_assoc in
    let small : n < 2 ^ 16 = subst (λ m. m < 2 ^ 16) (sym (length-params (shapes u.kind) u.params h.params)) (few_shapes u.kind) in
    ap update_value e
    ∙ rw (
      number_back w16 wide16 code r1 (code_fits u.kind),
      kind_again u.kind,
      number_back w16 wide16 n r2 small,
      part_again 4 (word w32 0) r3 (wide32.len 0),
      number_back w64 wide64 u.batch r4 h.batch,
      fid_back u.fid r5 h.fid,
      params_back (shapes u.kind) u.params rest h.params,
    ) refl

updates_back : (owner : Option ℕ) (us : List Update) (rest : List ℕ) → AllByRecursion (FitsUpdateOf owner) us → many update_value (length us) (updates_text us ++ rest) ≡ Some (us, rest)
unfolding many updates_text
updates_back owner [] rest h = refl
updates_back owner (u ∷ us) rest h =
    let e : updates_text (u ∷ us) ++ rest ≡ update_text u ++ (updates_text us ++ rest) = ap (λ (t : List ℕ). t ++ rest) (flat_map-cons update_text u us) ∙ append_assoc (update_text u) (updates_text us) rest in
    ap (many update_value (suc (length us))) e ∙ rw (update_back owner u (updates_text us ++ rest) h.0, updates_back owner us rest h.1) refl

pub request_found : (owner : Option ℕ) (us : List Update) (rest : List ℕ) → length us ≤ 128 → AllByRecursion (FitsUpdateOf owner) us → request_at (request_text us ++ rest) ≡ Some (us, rest)
unfolding request_at
request_found owner us rest count each =
    let n = length us in
    let r3 = updates_text us ++ rest in
    let r2 = zeros 2 ++ r3 in
    let r1 = word w16 n ++ r2 in
    let e : request_text us ++ rest ≡ word w32 request_magic ++ r1 = simp append_assoc in
    ap request_at e
    ∙ rw (part_again 4 (word w32 request_magic) r1 (wide32.len request_magic), number_back w16 wide16 n r2 (omega (arith, count)), part_again 2 (zeros 2) r3 (length-zeros 2), updates_back owner us rest each) refl

pub request_back : (us : List Update) (rest : List ℕ) → FitsRequest us → request_value (request_text us ++ rest) ≡ Some us
request_back us rest h = ap front (request_found None us rest h.count h.each)

pub short_params : (ss : List Shape) (ps : List (List ℕ)) → FitsParams ss ps → AllByRecursion (λ p. length p < 2 ^ 16) ps
unfolding FitsParams
short_params [] [] h = tt
short_params [] (x ∷ ps) h = absurd h
short_params (s ∷ ss) [] h = absurd h
short_params (s ∷ ss) (x ∷ ps) h = (allowed_below s (length x) h.0.length_allowed, short_params ss ps h.1)
