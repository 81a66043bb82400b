-- What is spelled is read to its end, and what is read to its end is spelled.
use Rattle.std.proofs.Common.{◌≡◌, ℕ, zero, suc, ◌+◌, ◌^◌, ◌≤◌, ◌<◌, Bool, true, false, if◌then◌else◌, List, [], ◌∷◌, ◌++◌, length, take, drop, Option, Some, None, refl, sym, ap, subst, ◌∙◌, arith, lit<, ◌⊎◌, ◌==◌, length-append, inl, inr}
use Rattle.std.specs.Prelude.{nat_le}
use Rattle.std.specs.List.{AllByRecursion}
use Rattle.std.specs.Int.{w16, w32, w64, byte_len}
use Rattle.std.proofs.lemmas.Bool.Decides.{nat_tests}
use Rattle.std.proofs.lemmas.List.Concat.{flat_map-cons}
use Rattle.std.proofs.lemmas.Bool.{eqb-true, eq-eqb, leb-true, le-leb}
use Rattle.std.proofs.lemmas.List.{length-take-le, take-append-drop, length-drop}
use Rattle.fid_space.specs.declared.fid.Fid.{Fid}
use Rattle.fid_space.specs.FidText.{IsFid}
use Rattle.byte_grammar.specs.declared.verdict.Reason.TheVariants.{BadMagic, BadCount, BadLength, BadValue}
use Rattle.byte_grammar.specs.declared.verdict.Verdict.TheVariants.{Done}
use Rattle.byte_grammar.specs.Grammar.{Grammar, judge}
use Rattle.byte_grammar.specs.Grammar.Grammar.{Ends, Field}
use Rattle.byte_grammar.specs.Numbers.{word, worth, IsBytes, zeros, padding}
use Rattle.byte_grammar.specs.Fields.{number, refuse, unless_bad, nothing}
use Rattle.byte_grammar.proofs.Bytes.{IsWide, wide8, wide16, wide32, wide64, length-zeros, IsBytes-drop, IsBytes-take}
use Rattle.byte_grammar.proofs.Parts.{Leads, leads_then, field_leads, number_leads, nothing_leads, Takes, joined, field_takes, number_takes, nothing_takes, goes_as, not_bad, passed}
use Rattle.byte_grammar.proofs.Judging.{done_place}
use Rattle.out_update.specs.declared.update.Update.{Update}
use Rattle.out_update.specs.declared.update.Kind.{Kind}
use Rattle.out_update.specs.declared.update.Kind.TheVariants as kind
use Rattle.out_update.specs.declared.shape.Shape.{Shape}
use Rattle.out_update.specs.declared.shape.Shape.TheVariants as shape
use Rattle.out_update.specs.declared.shape.BodyField.{BodyField}
use Rattle.out_update.specs.declared.shape.BodyField.TheVariants as body
use Rattle.out_update.specs.Types.{code_of, shapes, allows, first_with, kinds, kind_at, may_stand, batch_fits}
use Rattle.out_update.specs.Bodies.{width_of, may_be, kind_after, count_after, body_fields, AreNumbers}
use Rattle.out_update.specs.Names.{name_fault}
use Rattle.out_update.specs.Spelling.{param_text, fid_bytes, params_text, update_text, updates_text, request_text, request_magic, FitsContent, FitsParam, FitsParams, FitsUpdateOf, FitsRequest}
use Rattle.out_update.specs.Reading.{at_body, at_content, at_param, at_params, at_fid, at_batch, at_flags, at_head, by_kind, at_update, at_updates, at_count, request_then, request}

-- ---- bodies

wide_of : (f : BodyField) → IsWide (width_of f)
wide_of body.Count = wide8
wide_of body.Start = wide8
wide_of body.Zero = wide16
wide_of body.Seq = wide64
wide_of _ = wide32

body_leads : (l k c : ℕ) (fs : List BodyField) (next : Grammar) (p : ℕ) (bytes : List ℕ) → AreNumbers k c fs bytes → p + length bytes ≤ l → Leads l (at_body k c fs next) next p bytes
unfolding AreNumbers at_body
body_leads l k c [] next p bytes h fits = subst (Leads l next next p) (sym h) (λ rest. let e : p ≡ p + 0 = omega arith in ap (λ (q : ℕ). judge l next q rest) e)
body_leads l k c (f ∷ fs) next p bytes h fits =
    let w = width_of f in
    let wide = wide_of f in
    let len : length bytes ≡ byte_len w + length h.1 = ap length h.4 ∙ length-append (word w h.0) h.1 ∙ ap (λ (m : ℕ). m + length h.1) (wide.len h.0) in
    let first : Leads l (number w BadValue (may_be k c f) (λ n. at_body (kind_after k f n) (count_after c f n) fs next)) (at_body (kind_after k f h.0) (count_after c f h.0) fs next) p (word w h.0) =
    number_leads l w wide BadValue (may_be k c f) (λ n. at_body (kind_after k f n) (count_after c f n) fs next) p h.0 h.2 h.3 (omega arith) in
    let others = body_leads l (kind_after k f h.0) (count_after c f h.0) fs next (p + length (word w h.0)) h.1 h.5 (omega (arith, wide.len h.0)) in
    subst (Leads l (at_body k c (f ∷ fs) next) next p) (sym h.4) (leads_then l _ _ next p (word w h.0) h.1 first others)

body_takes : (l k c : ℕ) (fs : List BodyField) (next : Grammar) (p : ℕ) (xs : List ℕ) (e : ℕ) → IsBytes xs → judge l (at_body k c fs next) p xs ≡ Done e → (bytes : List ℕ) × AreNumbers k c fs bytes × Takes l next p xs e bytes
unfolding AreNumbers at_body
body_takes l k c [] next p xs e h d = ([], refl, record { rest = xs; parts = refl; fits = h; goes_on = let q : p + 0 ≡ p = omega arith in ap (λ (q : ℕ). judge l next q xs) q ∙ d })
body_takes l k c (f ∷ fs) next p xs e h d =
    let w = width_of f in
    let a = number_takes l w (wide_of f) BadValue (may_be k c f) (λ n. at_body (kind_after k f n) (count_after c f n) fs next) p xs e h d in
    let b = body_takes l (kind_after k f a.0) (count_after c f a.0) fs next (p + length (word w a.0)) a.3.rest e a.3.fits a.3.goes_on in
    (word w a.0 ++ b.0, (a.0, b.0, a.1, a.2, refl, b.1), joined l _ next p xs e (word w a.0) b.0 a.3 b.2)

abbrev total : List BodyField → ℕ
total [] = 0
total (f ∷ fs) = byte_len (width_of f) + total fs

length-numbers : (k c : ℕ) (fs : List BodyField) (bytes : List ℕ) → AreNumbers k c fs bytes → length bytes ≡ total fs
unfolding AreNumbers
length-numbers k c [] bytes h = ap length h
length-numbers k c (f ∷ fs) bytes h =
    ap length h.4 ∙ length-append (word (width_of f) h.0) h.1 ∙ ap (λ (m : ℕ). m + length h.1) ((wide_of f).len h.0) ∙ ap (λ (m : ℕ). byte_len (width_of f) + m) (length-numbers (kind_after k f h.0) (count_after c f h.0) fs h.1 h.5)

-- ---- parameters

content_leads : (l : ℕ) (s : Shape) (n : ℕ) (next : Grammar) (p : ℕ) (bytes : List ℕ) → length bytes ≡ n → FitsContent s bytes → p + n ≤ l → Leads l (at_content s n next) next p bytes
unfolding at_content
content_leads l shape.Body n next p bytes len h fits = body_leads l 0 0 body_fields next p bytes h (omega arith)
content_leads l shape.Name n next p bytes len h fits = λ rest. field_leads l n (λ place b. unless_bad (name_fault b) place BadValue next) p bytes len fits rest ∙ ap (λ (o : Option ℕ). judge l (unless_bad o p BadValue next) (p + length bytes) rest) h
content_leads l _ n next p bytes len h fits = field_leads l n (λ place b. next) p bytes len fits

content_takes : (l : ℕ) (s : Shape) (n : ℕ) (next : Grammar) (p : ℕ) (xs : List ℕ) (e : ℕ) → IsBytes xs → allows s n ≡ true → judge l (at_content s n next) p xs ≡ Done e → (bytes : List ℕ) × (length bytes ≡ n) × FitsContent s bytes × Takes l next p xs e bytes
unfolding at_content
content_takes l shape.Body n next p xs e h a d =
    let b = body_takes l 0 0 body_fields next p xs e h d in
    let is : n ≡ 48 = grind (arith, nat_tests) in
    (b.0, length-numbers 0 0 body_fields b.0 b.1 ∙ sym is, b.1, b.2)
content_takes l shape.Name n next p xs e h a d =
    let f = field_takes l n (λ place b. unless_bad (name_fault b) place BadValue next) p xs e h d in
    let g = not_bad l (name_fault f.0) next p (p + length f.0) BadValue f.3.rest e f.3.goes_on in
    (f.0, f.1, g.0, goes_as l _ next p xs e f.0 f.0 f.3 refl g.1)
content_takes l _ n next p xs e h a d = let f = field_takes l n (λ place b. next) p xs e h d in (f.0, f.1, tt, f.3)

pub allowed_below : (s : Shape) (n : ℕ) → allows s n ≡ true → n < 2 ^ 16
allowed_below shape.Body n h = grind (arith, nat_tests)
allowed_below shape.Attributes n h = grind (arith, nat_tests)
allowed_below shape.Name n h = grind (arith, nat_tests)
allowed_below shape.Value n h = grind (arith, nat_tests)
allowed_below shape.Fid n h = grind (arith, nat_tests)
allowed_below shape.Layout n h = grind (arith, nat_tests)

length-param : (x : List ℕ) → length (param_text x) ≡ 8 + length x + padding (length x)
length-param x = simp (length-append, length-zeros, wide16.len) (omega arith)

param_leads : (l : ℕ) (s : Shape) (next : Grammar) (p : ℕ) (x : List ℕ) → FitsParam s x → p + length (param_text x) ≤ l → Leads l (at_param s next) next p (param_text x)
unfolding at_param
param_leads l s next p x h fits =
    let n = length x in
    let len = length-param x in
    let g5 = nothing (padding n) next in
    let g4 = at_content s n g5 in
    let g3 = nothing 4 g4 in
    let z2 = length-zeros 2 in
    let z4 = length-zeros 4 in
    let w2 = wide16.len n in
    let p1 = p + length (word w16 n) in
    let p2 = p1 + length (zeros 2) in
    let p3 = p2 + length (zeros 4) in
    let p4 = p3 + length x in
    let a = number_leads l w16 wide16 BadLength (allows s) (λ m. nothing 2 (nothing 4 (at_content s m (nothing (padding m) next)))) p n (allowed_below s n h.length_allowed) h.length_allowed (omega arith) in
    let b = nothing_leads l 2 g3 p1 (omega arith) in
    let c = nothing_leads l 4 g4 p2 (omega arith) in
    let d = content_leads l s n g5 p3 x refl h.content (omega arith) in
    let e = nothing_leads l (padding n) next p4 (omega arith) in
    let de = leads_then l g4 g5 next p3 x (zeros (padding n)) d e in
    let ce = leads_then l g3 g4 next p2 (zeros 4) _ c de in
    let be = leads_then l (nothing 2 g3) g3 next p1 (zeros 2) _ b ce in
    leads_then l (at_param s next) (nothing 2 g3) next p (word w16 n) _ a be

param_takes : (l : ℕ) (s : Shape) (next : Grammar) (p : ℕ) (xs : List ℕ) (e : ℕ) → IsBytes xs → judge l (at_param s next) p xs ≡ Done e → (x : List ℕ) × FitsParam s x × Takes l next p xs e (param_text x)
unfolding at_param
param_takes l s next p xs e h d =
    let a = number_takes l w16 wide16 BadLength (allows s) (λ m. nothing 2 (nothing 4 (at_content s m (nothing (padding m) next)))) p xs e h d in
    let n = a.0 in
    let g5 = nothing (padding n) next in
    let g4 = at_content s n g5 in
    let g3 = nothing 4 g4 in
    let p1 = p + length (word w16 n) in
    let p2 = p1 + length (zeros 2) in
    let p3 = p2 + length (zeros 4) in
    let b = nothing_takes l 2 g3 p1 a.3.rest e a.3.fits a.3.goes_on in
    let c = nothing_takes l 4 g4 p2 b.rest e b.fits b.goes_on in
    let x = content_takes l s n g5 p3 c.rest e c.fits a.2 c.goes_on in
    let z = nothing_takes l (padding n) next (p3 + length x.0) x.3.rest e x.3.fits x.3.goes_on in
    let xz = joined l g5 next p3 c.rest e x.0 (zeros (padding n)) x.3 z in
    let cz = joined l g4 next p2 b.rest e (zeros 4) _ c xz in
    let bz = joined l g3 next p1 a.3.rest e (zeros 2) _ b cz in
    let az = joined l (nothing 2 g3) next p xs e (word w16 n) _ a.3 bz in (
      x.0,
      record { length_allowed = ap (allows s) x.1 ∙ a.2; content = x.2 },
      subst (λ (m : ℕ). Takes l next p xs e (word w16 m ++ (zeros 2 ++ (zeros 4 ++ (x.0 ++ zeros (padding m)))))) (sym x.1) az,
    )

params_lead : (l : ℕ) (ss : List Shape) (next : Grammar) (p : ℕ) (ps : List (List ℕ)) → FitsParams ss ps → p + length (params_text ps) ≤ l → Leads l (at_params ss next) next p (params_text ps)
unfolding at_params params_text FitsParams
params_lead l [] next p [] h fits = λ rest. let e : p ≡ p + 0 = omega arith in ap (λ (q : ℕ). judge l next q rest) e
params_lead l [] next p (x ∷ ps) h fits = absurd h
params_lead l (s ∷ ss) next p [] h fits = absurd h
params_lead l (s ∷ ss) next p (x ∷ ps) h fits =
    let cut : params_text (x ∷ ps) ≡ param_text x ++ params_text ps = flat_map-cons param_text x ps in
    let len : length (params_text (x ∷ ps)) ≡ length (param_text x) + length (params_text ps) = ap length cut ∙ length-append (param_text x) (params_text ps) in
    let a = param_leads l s (at_params ss next) p x h.0 (omega arith) in
    let b = params_lead l ss next (p + length (param_text x)) ps h.1 (omega arith) in
    subst (Leads l (at_params (s ∷ ss) next) next p) (sym cut) (leads_then l (at_param s (at_params ss next)) (at_params ss next) next p (param_text x) (params_text ps) a b)

params_take : (l : ℕ) (ss : List Shape) (next : Grammar) (p : ℕ) (xs : List ℕ) (e : ℕ) → IsBytes xs → judge l (at_params ss next) p xs ≡ Done e → (ps : List (List ℕ)) × (length ps ≡ length ss) × FitsParams ss ps × Takes l next p xs e (params_text ps)
unfolding at_params params_text FitsParams
params_take l [] next p xs e h d = ([], refl, tt, record { rest = xs; parts = refl; fits = h; goes_on = let q : p + 0 ≡ p = omega arith in ap (λ (q : ℕ). judge l next q xs) q ∙ d })
params_take l (s ∷ ss) next p xs e h d =
    let a = param_takes l s (at_params ss next) p xs e h d in
    let b = params_take l ss next (p + length (param_text a.0)) a.2.rest e a.2.fits a.2.goes_on in
    let both = joined l (at_params ss next) next p xs e (param_text a.0) (params_text b.0) a.2 b.3 in
    (a.0 ∷ b.0, ap (λ (m : ℕ). suc m) b.1, (a.1, b.2), subst (Takes l next p xs e) (sym (flat_map-cons param_text a.0 b.0)) both)

pub length-params : (ss : List Shape) (ps : List (List ℕ)) → FitsParams ss ps → length ps ≡ length ss
unfolding FitsParams
length-params [] [] h = refl
length-params [] (x ∷ ps) h = absurd h
length-params (s ∷ ss) [] h = absurd h
length-params (s ∷ ss) (x ∷ ps) h = ap (λ (m : ℕ). suc m) (length-params ss ps h.1)

pub few_shapes : (k : Kind) → length (shapes k) < 2 ^ 16
few_shapes kind.Create = lit< tt
few_shapes _ = lit< tt

-- ---- updates

length-fid : (f : Fid) → length (fid_bytes f) ≡ 16
length-fid f = simp (length-append, wide64.len, wide32.len)

-- sixteen bytes are those of a FID
fid_back : (bytes : List ℕ) → IsBytes bytes → length bytes ≡ 16 → (f : Fid) × IsFid f × (bytes ≡ fid_bytes f)
fid_back bytes h len =
    let rest = drop 8 bytes in
    let f : Fid = record { seq = worth w64 (take 8 bytes); oid = worth w32 (take 4 rest); ver = worth w32 (drop 4 rest) } in
    let seq = wide64.back (take 8 bytes) (length-take-le 8 bytes (omega arith)) (IsBytes-take 8 bytes h) in
    let tail = IsBytes-drop 8 bytes h in
    let oid = wide32.back (take 4 rest) (length-take-le 4 rest (omega (arith, length-drop 8 bytes))) (IsBytes-take 4 rest tail) in
    let ver = wide32.back (drop 4 rest) (omega (arith, length-drop 8 bytes, length-drop 4 rest)) (IsBytes-drop 4 rest tail) in
    let second : fid_bytes f ≡ take 8 bytes ++ (take 4 rest ++ drop 4 rest) = rw (seq, oid, ver) refl in (
      f,
      (wide64.below (take 8 bytes) (IsBytes-take 8 bytes h), wide32.below (take 4 rest) (IsBytes-take 4 rest tail), wide32.below (drop 4 rest) (IsBytes-drop 4 rest tail)),
      sym (take-append-drop 8 bytes) ∙ ap (λ (r : List ℕ). take 8 bytes ++ r) (sym (take-append-drop 4 rest)) ∙ sym second,
    )

pub code_fits : (k : Kind) → code_of k < 2 ^ 16
code_fits kind.Create = lit< tt
code_fits _ = lit< tt

pub kind_again : (k : Kind) → kind_at (code_of k) ≡ Some k
unfolding kind_at
kind_again kind.Create = refl
kind_again _ = refl

chosen : (b : Bool) (x k : Kind) (o : Option Kind) → (if b then Some x else o) ≡ Some k → ((b ≡ true) × (x ≡ k)) ⊎ (o ≡ Some k)
chosen true x k o e = inl (refl, cc)
chosen false x k o e = inr e

first_is : (n : ℕ) (ks : List Kind) (k : Kind) → first_with n ks ≡ Some k → code_of k ≡ n
first_is n [] k e = absurd cc
first_is n (x ∷ ks) k e =
    elim (chosen (code_of x == n) x k (first_with n ks) e) [
      | inl h ↦ ap code_of (sym h.1) ∙ eqb-true (code_of x) n h.0
      | inr h ↦ first_is n ks k h
    ]

pub kind_is : (n : ℕ) (k : Kind) → kind_at n ≡ Some k → code_of k ≡ n
unfolding kind_at
kind_is n k e = first_is n kinds k e

-- what stands behind the type of an update
abbrev pub rest_text : Update → List ℕ
rest_text u = word w16 (length u.params) ++ (word w32 0 ++ (word w64 u.batch ++ (fid_bytes u.fid ++ params_text u.params)))

pub length-rest : (u : Update) → length (rest_text u) ≡ 30 + length (params_text u.params)
length-rest u = simp (length-append, wide64.len, wide32.len, wide16.len) (omega arith)

pub head_leads : (owner : Option ℕ) (l : ℕ) (u : Update) (next : Grammar) (p : ℕ) → FitsUpdateOf owner u → p + length (rest_text u) ≤ l → Leads l (at_head owner u.kind next) next p (rest_text u)
unfolding at_head at_flags at_batch at_fid
head_leads owner l u next p h fits =
    let k = u.kind in
    let count = length u.params in
    let shaped : count ≡ length (shapes k) = length-params (shapes k) u.params h.params in
    let len = length-rest u in
    let g5 = at_params (shapes k) next in
    let g4 = Field 16 (λ place bytes. g5) in
    let g3 = number w64 BadValue (batch_fits owner k) (λ n. g4) in
    let g2 = number w32 BadValue (λ n. n == 0) (λ n. g3) in
    let p1 = p + length (word w16 count) in
    let p2 = p1 + length (word w32 0) in
    let p3 = p2 + length (word w64 u.batch) in
    let p4 = p3 + length (fid_bytes u.fid) in
    let w2 = wide16.len count in
    let four = wide32.len 0 in
    let eight = wide64.len u.batch in
    let sixteen = length-fid u.fid in
    let a = number_leads l w16 wide16 BadCount (λ n. n == length (shapes k)) (λ n. g2) p count (subst (λ m. m < 2 ^ 16) (sym shaped) (few_shapes k)) (eq-eqb count (length (shapes k)) shaped) (omega arith) in
    let b = number_leads l w32 wide32 BadValue (λ n. n == 0) (λ n. g3) p1 0 (lit< tt) refl (omega arith) in
    let c = number_leads l w64 wide64 BadValue (batch_fits owner k) (λ n. g4) p2 u.batch h.batch h.batch_set (omega arith) in
    let d = field_leads l 16 (λ place bytes. g5) p3 (fid_bytes u.fid) (length-fid u.fid) (omega arith) in
    let e = params_lead l (shapes k) next p4 u.params h.params (omega arith) in
    let de = leads_then l g4 g5 next p3 (fid_bytes u.fid) (params_text u.params) d e in
    let ce = leads_then l g3 g4 next p2 (word w64 u.batch) _ c de in
    let be = leads_then l g2 g3 next p1 (word w32 0) _ b ce in
    leads_then l (at_head owner k next) g2 next p (word w16 count) _ a be

same_rest : (n z : ℕ) (f : List ℕ) (u : Update) → n ≡ length u.params → z ≡ 0 → f ≡ fid_bytes u.fid → word w16 n ++ (word w32 z ++ (word w64 u.batch ++ (f ++ params_text u.params))) ≡ rest_text u
same_rest n z f u a b c = rw (a, b, c) refl

pub head_takes : (owner : Option ℕ) (l : ℕ) (k : Kind) (next : Grammar) (p : ℕ) (xs : List ℕ) (e : ℕ) → IsBytes xs → may_stand owner k ≡ true → judge l (at_head owner k next) p xs ≡ Done e → (u : Update) × (u.kind ≡ k) × FitsUpdateOf owner u × Takes l next p xs e (rest_text u)
unfolding at_head at_flags at_batch at_fid
head_takes owner l k next p xs e h stands d =
    let g5 = at_params (shapes k) next in
    let g4 = Field 16 (λ place bytes. g5) in
    let g3 = number w64 BadValue (batch_fits owner k) (λ n. g4) in
    let g2 = number w32 BadValue (λ n. n == 0) (λ n. g3) in
    let a = number_takes l w16 wide16 BadCount (λ n. n == length (shapes k)) (λ n. g2) p xs e h d in
    let p1 = p + length (word w16 a.0) in
    let b = number_takes l w32 wide32 BadValue (λ n. n == 0) (λ n. g3) p1 a.3.rest e a.3.fits a.3.goes_on in
    let p2 = p1 + length (word w32 b.0) in
    let c = number_takes l w64 wide64 BadValue (batch_fits owner k) (λ n. g4) p2 b.3.rest e b.3.fits b.3.goes_on in
    let p3 = p2 + length (word w64 c.0) in
    let f = field_takes l 16 (λ place bytes. g5) p3 c.3.rest e c.3.fits c.3.goes_on in
    let fid = fid_back f.0 f.2 f.1 in
    let ps = params_take l (shapes k) next (p3 + length f.0) f.3.rest e f.3.fits f.3.goes_on in
    let u : Update = record { kind = k; batch = c.0; fid = fid.0; params = ps.0 } in
    let fe = joined l g5 next p3 c.3.rest e f.0 (params_text ps.0) f.3 ps.3 in
    let ce = joined l g4 next p2 b.3.rest e (word w64 c.0) _ c.3 fe in
    let be = joined l g3 next p1 a.3.rest e (word w32 b.0) _ b.3 ce in
    let ae = joined l g2 next p xs e (word w16 a.0) _ a.3 be in
    let n-is : a.0 ≡ length ps.0 = eqb-true a.0 (length (shapes k)) a.2 ∙ sym ps.1 in
    let z-is : b.0 ≡ 0 = eqb-true b.0 0 b.2 in
    let same : word w16 a.0 ++ (word w32 b.0 ++ (word w64 c.0 ++ (f.0 ++ params_text ps.0))) ≡ rest_text u = same_rest a.0 b.0 f.0 u n-is z-is fid.2 in
    (u, refl, record { stands = stands; batch = c.1; batch_set = c.2; fid = fid.1; params = ps.2 }, subst (Takes l next p xs e) same ae)

-- ---- a request

updates_lead : (owner : Option ℕ) (l : ℕ) (us : List Update) (after : Grammar) (p : ℕ) → AllByRecursion (FitsUpdateOf owner) us → p + length (updates_text us) ≤ l → Leads l (at_updates owner (length us) after) after p (updates_text us)
unfolding at_updates at_update updates_text
updates_lead owner l [] after p h fits = λ rest. let e : p ≡ p + 0 = omega arith in ap (λ (q : ℕ). judge l after q rest) e
updates_lead owner l (u ∷ us) after p h fits =
    let next = at_updates owner (length us) after in
    let cut : updates_text (u ∷ us) ≡ update_text u ++ updates_text us = flat_map-cons update_text u us in
    let len : length (updates_text (u ∷ us)) ≡ length (update_text u) + length (updates_text us) = ap length cut ∙ length-append (update_text u) (updates_text us) in
    let code = code_of u.kind in
    let len1 : length (update_text u) ≡ 2 + length (rest_text u) = length-append (word w16 code) (rest_text u) ∙ ap (λ (m : ℕ). m + length (rest_text u)) (wide16.len code) in
    let p1 = p + length (word w16 code) in
    let two = wide16.len code in
    let is : by_kind owner (kind_at (worth w16 (word w16 code))) p next ≡ at_head owner u.kind next = ap (λ (m : ℕ). by_kind owner (kind_at m) p next) (wide16.again code (code_fits u.kind)) ∙ ap (λ (o : Option Kind). by_kind owner o p next) (kind_again u.kind) ∙ ap (λ (b : Bool). if b then at_head owner u.kind next else refuse p BadValue) h.0.stands in
    let a = field_leads l 2 (λ place bytes. by_kind owner (kind_at (worth w16 bytes)) place next) p (word w16 code) (wide16.len code) (omega arith) in
    let a2 = subst (λ (g : Grammar). Leads l (at_update owner next) g p (word w16 code)) is a in
    let b = head_leads owner l u next p1 h.0 (omega arith) in
    let c = updates_lead owner l us after (p + length (update_text u)) h.1 (omega arith) in
    let ab = leads_then l (at_update owner next) (at_head owner u.kind next) next p (word w16 code) (rest_text u) a2 b in
    subst (Leads l (at_update owner next) after p) (sym cut) (leads_then l (at_update owner next) next after p (update_text u) (updates_text us) ab c)

kind_taken : (owner : Option ℕ) (l : ℕ) (o : Option Kind) (p q : ℕ) (next : Grammar) (xs : List ℕ) (e : ℕ) → judge l (by_kind owner o p next) q xs ≡ Done e → (k : Kind) × (o ≡ Some k) × (may_stand owner k ≡ true) × (judge l (at_head owner k next) q xs ≡ Done e)
unfolding judge
kind_taken owner l None p q next xs e d = absurd cc
kind_taken owner l (Some k) p q next xs e d = let g = passed l (may_stand owner k) (at_head owner k next) p q BadValue xs e d in (k, refl, g.0, g.1)

updates_take : (owner : Option ℕ) (l n : ℕ) (after : Grammar) (p : ℕ) (xs : List ℕ) (e : ℕ) → IsBytes xs → judge l (at_updates owner n after) p xs ≡ Done e → (us : List Update) × (length us ≡ n) × AllByRecursion (FitsUpdateOf owner) us × Takes l after p xs e (updates_text us)
unfolding at_updates at_update updates_text
updates_take owner l zero after p xs e h d = ([], refl, tt, record { rest = xs; parts = refl; fits = h; goes_on = let q : p + 0 ≡ p = omega arith in ap (λ (q : ℕ). judge l after q xs) q ∙ d })
updates_take owner l (suc n) after p xs e h d =
    let next = at_updates owner n after in
    let f = field_takes l 2 (λ place bytes. by_kind owner (kind_at (worth w16 bytes)) place next) p xs e h d in
    let k = kind_taken owner l (kind_at (worth w16 f.0)) p (p + length f.0) next f.3.rest e f.3.goes_on in
    let u = head_takes owner l k.0 next (p + length f.0) f.3.rest e f.3.fits k.2 k.3 in
    let code : f.0 ≡ word w16 (code_of u.0.kind) = sym (wide16.back f.0 f.1 f.2) ∙ ap (word w16) (sym (kind_is (worth w16 f.0) k.0 k.1) ∙ ap code_of (sym u.1)) in
    let fu = joined l _ next p xs e f.0 (rest_text u.0) f.3 u.3 in
    let first : Takes l next p xs e (update_text u.0) = subst (λ (t : List ℕ). Takes l next p xs e (t ++ rest_text u.0)) code fu in
    let us = updates_take owner l n after (p + length (update_text u.0)) first.rest e first.fits first.goes_on in
    let both = joined l next after p xs e (update_text u.0) (updates_text us.0) first us.3 in
    (u.0 ∷ us.0, ap (λ (m : ℕ). suc m) us.1, (u.2, us.2), subst (Takes l after p xs e) (sym (flat_map-cons update_text u.0 us.0)) both)

length-request : (us : List Update) → length (request_text us) ≡ 8 + length (updates_text us)
length-request us = simp (length-append, length-zeros, wide16.len, wide32.len) (omega arith)

-- a request at any place, whatever follows it
pub inner_leads : (owner : Option ℕ) (l : ℕ) (us : List Update) (after : Grammar) (p : ℕ) → length us ≤ 128 → AllByRecursion (FitsUpdateOf owner) us → p + length (request_text us) ≤ l → Leads l (request_then owner after) after p (request_text us)
unfolding request_then at_count
inner_leads owner l us after p few each fits =
    let n = length us in
    let len = length-request us in
    let g3 = at_updates owner n after in
    let g2 = nothing 2 g3 in
    let p1 = p + length (word w32 request_magic) in
    let p2 = p1 + length (word w16 n) in
    let p3 = p2 + length (zeros 2) in
    let four = wide32.len request_magic in
    let two = wide16.len n in
    let z2 = length-zeros 2 in
    let small : n < 2 ^ 16 = omega arith in
    let a = number_leads l w32 wide32 BadMagic (λ n. n == request_magic) (λ _. at_count owner after) p request_magic (lit< tt) refl (omega arith) in
    let b = number_leads l w16 wide16 BadCount (λ n. nat_le n 128) (λ n. nothing 2 (at_updates owner n after)) p1 n small (le-leb n 128 few) (omega arith) in
    let c = nothing_leads l 2 g3 p2 (omega arith) in
    let d = updates_lead owner l us after p3 each (omega arith) in
    let cd = leads_then l g2 g3 after p2 (zeros 2) (updates_text us) c d in
    let bd = leads_then l (at_count owner after) g2 after p1 (word w16 n) _ b cd in
    leads_then l (request_then owner after) (at_count owner after) after p (word w32 request_magic) _ a bd

same_request : (m n : ℕ) (us : List Update) → m ≡ request_magic → n ≡ length us → word w32 m ++ (word w16 n ++ (zeros 2 ++ updates_text us)) ≡ request_text us
same_request m n us a b = ap (λ (x : ℕ). word w32 x ++ (word w16 n ++ (zeros 2 ++ updates_text us))) a ∙ ap (λ (x : ℕ). word w32 request_magic ++ (word w16 x ++ (zeros 2 ++ updates_text us))) b

pub inner_takes : (owner : Option ℕ) (l : ℕ) (after : Grammar) (p : ℕ) (xs : List ℕ) (e : ℕ) → IsBytes xs → judge l (request_then owner after) p xs ≡ Done e → (us : List Update) × (length us ≤ 128) × AllByRecursion (FitsUpdateOf owner) us × Takes l after p xs e (request_text us)
unfolding request_then at_count
inner_takes owner l after p xs e h d =
    let a = number_takes l w32 wide32 BadMagic (λ n. n == request_magic) (λ _. at_count owner after) p xs e h d in
    let p1 = p + length (word w32 a.0) in
    let b = number_takes l w16 wide16 BadCount (λ n. nat_le n 128) (λ n. nothing 2 (at_updates owner n after)) p1 a.3.rest e a.3.fits a.3.goes_on in
    let n = b.0 in
    let p2 = p1 + length (word w16 n) in
    let c = nothing_takes l 2 (at_updates owner n after) p2 b.3.rest e b.3.fits b.3.goes_on in
    let us = updates_take owner l n after (p2 + length (zeros 2)) c.rest e c.fits c.goes_on in
    let ce = joined l (at_updates owner n after) after p2 b.3.rest e (zeros 2) (updates_text us.0) c us.3 in
    let be = joined l (nothing 2 (at_updates owner n after)) after p1 a.3.rest e (word w16 n) _ b.3 ce in
    let ae = joined l (at_count owner after) after p xs e (word w32 a.0) _ a.3 be in
    (us.0, subst (λ m. m ≤ 128) (sym us.1) (leb-true n 128 b.2), us.2, subst (Takes l after p xs e) (same_request a.0 n us.0 (eqb-true a.0 request_magic a.2) (sym us.1)) ae)

-- ---- a request alone

pub request_again : (us : List Update) (rest : List ℕ) → FitsRequest us → judge 24576 request 0 (request_text us ++ rest) ≡ Done (length (request_text us))
unfolding judge request
request_again us rest h =
    let size = h.size in
    let e : 0 + length (request_text us) ≡ length (request_text us) = omega arith in
    inner_leads None 24576 us Ends 0 h.count h.each (omega arith) rest ∙ ap (λ (q : ℕ). Done q) e

place_of : {p k : ℕ} → Done p ≡ Done k → p ≡ k
place_of e = cc

pub request_takes : (xs : List ℕ) (e : ℕ) → IsBytes xs → judge 24576 request 0 xs ≡ Done e → (us : List Update) × FitsRequest us × (rest : List ℕ) × (xs ≡ request_text us ++ rest) × (e ≡ length (request_text us))
unfolding judge request
request_takes xs e h d =
    let t = inner_takes None 24576 Ends 0 xs e h d in
    let place : 0 + length (request_text t.0) ≡ e = place_of t.3.goes_on in
    let bound = done_place 24576 request 0 xs e d in
    (t.0, record { count = t.1; each = t.2; size = omega arith }, t.3.rest, t.3.parts, omega arith)
