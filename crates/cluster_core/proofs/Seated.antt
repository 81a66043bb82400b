-- Disks become those of targets.
use Rattle.std.proofs.Common.{◌≡◌, ◌<◌, ◌≤◌, ℕ, zero, suc, ◌+◌, false, List, [], ◌∷◌, ◌++◌, length, map, take, drop, get_or, length-append, refl, sym, ap, ap₂, ◌∙◌, arith}
use Rattle.std.proofs.lemmas.List.{length-map}
use Rattle.outside.specs.Disk.{Shown}
use Rattle.target_turns.specs.Target.{Target, target_down}
use Rattle.cluster_core.specs.Cluster.{ArePlaced, target_at}
use Rattle.cluster_core.specs.Founding.{unfounded}
use Rattle.cluster_core.specs.Cored.{unmade}

pub unfounded_push : (count i j : ℕ) (ds : List Shown) (d : Shown) → i + length ds ≡ j → unfounded count i (ds ++ d ∷ []) ≡ unfounded count i ds ++ target_down count j false d ∷ []
unfounded_push count i j [] d at = ap (λ (n : ℕ). target_down count n false d ∷ []) (omega (arith, at))
unfounded_push count i j (e ∷ ds) d at = ap (λ (ts : List Target). target_down count i false e ∷ ts) (unfounded_push count (i + 1) j ds d (omega (arith, at)))

pub unfounded_length : (count i : ℕ) (ds : List Shown) → length (unfounded count i ds) ≡ length ds
unfounded_length count i [] = refl
unfounded_length count i (d ∷ ds) = ap (λ n. suc n) (unfounded_length count (i + 1) ds)

unfounded_at : (count i : ℕ) (ds : List Shown) (j : ℕ) → j < length ds → ((target_at (unfounded count i ds) j).targets ≡ count) × ((target_at (unfounded count i ds) j).index ≡ i + j)
unfounded_at count i [] j low = absurd (omega (arith, low))
unfounded_at count i (d ∷ ds) zero low = (refl, omega arith)
unfounded_at count i (d ∷ ds) (suc j) low =
    let rest = unfounded_at count (i + 1) ds j (omega (arith, low)) in
    (rest.0, rest.1 ∙ omega arith)

pub unfounded_placed : (count : ℕ) (ds : List Shown) → length ds ≡ count → ArePlaced count (unfounded count 0 ds)
unfounded_placed count ds e =
    record {
      count_is = unfounded_length count 0 ds ∙ e;
      at = λ i low. (let here = unfounded_at count 0 ds i (omega (arith, low, e)) in (here.0, here.1 ∙ omega arith));
    }

take_front : {X : Type 0} (n : ℕ) (xs ys : List X) → length xs ≡ n → take n (xs ++ ys) ≡ xs
take_front zero [] ys e = refl
take_front zero (x ∷ xs) ys e = absurd (omega (arith, e))
take_front (suc n) [] ys e = absurd (omega (arith, e))
take_front (suc n) (x ∷ xs) ys e = ap (λ l. x ∷ l) (take_front n xs ys (omega (arith, e)))

drop_front : {X : Type 0} (n : ℕ) (xs ys : List X) → length xs ≡ n → drop n (xs ++ ys) ≡ ys
drop_front zero [] ys e = refl
drop_front zero (x ∷ xs) ys e = absurd (omega (arith, e))
drop_front (suc n) [] ys e = absurd (omega (arith, e))
drop_front (suc n) (x ∷ xs) ys e = drop_front n xs ys (omega (arith, e))

pub unmade_is : (count : ℕ) (disks front rest : List Shown) → disks ≡ front ++ rest → length front ≡ count
    → record { cluster = record { targets = unfounded count 0 front; sent = [] }; spare = rest; spent = false } ≡ unmade count disks
unmade_is count disks front rest e few =
    ap₂ (λ (f r : List Shown). record { cluster = record { targets = unfounded count 0 f; sent = [] }; spare = r; spent = false })
    (sym (ap (take count) e ∙ take_front count front rest few))
    (sym (ap (drop count) e ∙ drop_front count front rest few))

pub first_removed : {X : Type 0} (xs : List X) (x : X) (ys : List X) → 0 < length xs → x ≡ get_or xs 0 x → ys ≡ take 0 xs ++ drop 1 xs → xs ≡ x ∷ ys
first_removed [] x ys some at rest = absurd (omega (arith, some))
first_removed {X} (z ∷ zs) x ys some at rest = ap₂ (λ (w : X) (ws : List X). w ∷ ws) (sym at) (sym rest)

-- something is left where the front is shorter than the whole
pub some_left : {X Y : Type 0} (f : X → Y) (olds rest : List X) (front : List Y) (i n : ℕ) → map f olds ≡ front ++ map f rest → length front ≡ i → i < n → n ≤ length olds → 0 < length rest
some_left f olds rest front i n e at low many =
    let sizes : length olds ≡ length front + length rest =
    sym (length-map olds f) ∙ ap length e ∙ length-append front (map f rest) ∙ ap (λ k. length front + k) (length-map rest f) in
    omega (arith, sizes, at, low, many)
