-- How long the texts of updates are at most.
use Rattle.std.proofs.Common.{◌≡◌, ◌≤◌, ◌+◌, ◌==◌, ◌&&◌, nat_le, ℕ, true, List, [], ◌∷◌, ◌++◌, length, Option, arith, length-append}
use Rattle.std.proofs.lemmas.Bool.Decides.{nat_tests}
use Rattle.std.proofs.lemmas.List.{length-replicate}
use Rattle.std.specs.Int.{w16}
use Rattle.byte_grammar.specs.Numbers.{word, zeros, padding}
use Rattle.byte_grammar.proofs.Bytes.{wide16}
use Rattle.out_update.specs.declared.update.Update.{Update}
use Rattle.out_update.specs.declared.update.Kind.{Kind}
use Rattle.out_update.specs.declared.shape.Shape.{Shape}
use Rattle.out_update.specs.declared.shape.Shape.TheVariants as shape
use Rattle.out_update.specs.Types.{shapes, allows}
use Rattle.out_update.specs.Spelling.{param_text, params_text, update_text, FitsParams, FitsUpdateOf}

-- a parameter of each shape, with its head and padding
abbrev pub shape_cost : Shape → ℕ
shape_cost shape.Body = 56
shape_cost shape.Attributes = 24
shape_cost shape.Name = 264
shape_cost shape.Value = 4104
shape_cost shape.Fid = 24
shape_cost shape.Layout = 16

abbrev pub shape_costs : List Shape → ℕ
shape_costs [] = 0
shape_costs (s ∷ ss) = shape_cost s + shape_costs ss

-- an update of each type
abbrev pub cost : Kind → ℕ
cost k = 32 + shape_costs (shapes k)

param_length : (p : List ℕ) → length (param_text p) ≡ 8 + (length p + padding (length p))
unfolding zeros
param_length p =
    let a = wide16.len (length p) in
    let b = length-append (word w16 (length p)) (zeros 2 ++ (zeros 4 ++ (p ++ zeros (padding (length p))))) in
    let c = length-append p (zeros (padding (length p))) in
    let d = length-replicate {A = ℕ} (padding (length p)) 0 in
    omega (arith, a, b, c, d)

exact : (n k : ℕ) → (n == k) ≡ true → n ≡ k
exact n k h = grind (arith, nat_tests)

up_to : (n k : ℕ) → nat_le n k ≡ true → n ≤ k
up_to n k h = grind (arith, nat_tests)

name_up_to : (n : ℕ) → (nat_le 1 n && nat_le n 255) ≡ true → n ≤ 255
name_up_to n h = grind (arith, nat_tests)

param_short : (s : Shape) (n : ℕ) → allows s n ≡ true → 8 + (n + padding n) ≤ shape_cost s
unfolding padding
param_short shape.Body n h = let is = exact n 48 h in omega (arith, is)
param_short shape.Attributes n h = let is = exact n 12 h in omega (arith, is)
param_short shape.Name n h = let is = name_up_to n h in omega (arith, is)
param_short shape.Value n h = let is = up_to n 4096 h in omega (arith, is)
param_short shape.Fid n h = let is = exact n 16 h in omega (arith, is)
param_short shape.Layout n h = let is = exact n 8 h in omega (arith, is)

params_short : (ss : List Shape) (ps : List (List ℕ)) → FitsParams ss ps → length (params_text ps) ≤ shape_costs ss
unfolding FitsParams params_text
params_short [] [] h = omega arith
params_short [] (p ∷ ps) h = absurd h
params_short (s ∷ ss) [] h = absurd h
params_short (s ∷ ss) (p ∷ ps) h =
    let rest = params_short ss ps h.1 in
    let one = param_short s (length p) h.0.length_allowed in
    let len = param_length p in
    let both = length-append (param_text p) (params_text ps) in
    omega (arith, rest, one, len, both)

head_length : (u : Update) → length (update_text u) ≡ 32 + length (params_text u.params)
unfolding word
head_length u = omega arith

pub update_short : (owner : Option ℕ) (u : Update) → FitsUpdateOf owner u → length (update_text u) ≤ cost u.kind
update_short owner u fits =
    let a = head_length u in
    let b = params_short (shapes u.kind) u.params fits.params in
    omega (arith, a, b)
