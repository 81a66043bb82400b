-- What all parts of a directory list are its entries, where there are at most 32.
use Rattle.std.proofs.Common.{◌≡◌, ◌≢◌, ◌≤◌, ◌==◌, nat_lt, ℕ, zero, suc, false, if◌then◌else◌, List, ◌++◌, take, refl, sym, ap, ◌∙◌, arith, add-one, append-nil}
use Rattle.std.proofs.Math.Dec.{eqb-suc-zero}
use Rattle.std.proofs.lemmas.Bool.Decides.{nat_tests}
use Rattle.std.proofs.lemmas.List.{take_all}
use Rattle.std.specs.List.{range_with_len, flat_map}
use Rattle.std.specs.FinMap.{len, entries, from_entries, len-entries, same_map, get-entries, get-from_entries}
use Rattle.fid_space.specs.declared.fid.Fid.{Fid}
use Rattle.tree_model.specs.Fids.{name_cmp}
use Rattle.tree_model.specs.Tree.{Names}
use Rattle.tree_model.specs.Keys.{Layout}
use Rattle.tree_model.proofs.Maps.{names_total, exact_names}
use Rattle.tree_shares.specs.Shares.{names_in}
use Rattle.tree_shares.specs.Telling.{told_names}
use Rattle.tree_shares.proofs.AllNames.{all_names_told}
use Rattle.plan_base.specs.Places.{parts_of}
use Rattle.plan_laws.specs.Truth.{kept, names_at, all_names_at}
use Rattle.plan_shares.proofs.Sharing.{plain_names, stripe_names}

abbrev part_told : Layout → Names → ℕ → List (List ℕ × Fid)
part_told l names i = take 33 (entries (names_in l i names))

from_one : (l : Layout) (names : Names) (i n : ℕ) → all_names_at (kept l) names i n ≡ flat_map (part_told l names) (range_with_len i n)
unfolding all_names_at
from_one l names i zero = refl
from_one l names i (suc n) =
    ap (λ es. es ++ all_names_at (kept l) names (suc i) n) (sym (stripe_names l names i))
    ∙ ap (λ es. part_told l names i ++ es) (from_one l names (suc i) n ∙ ap (λ j. flat_map (part_told l names) (range_with_len j n)) (sym (add-one i)))

again : (names : Names) → from_entries (entries names) ≡ names
again names = same_map names_total exact_names _ _ (λ x. get-from_entries names_total (entries names) x ∙ sym (get-entries names x))

-- all parts list what the shares tell
pub striped_list : (l : Layout) (names : Names) → l.count ≢ 0 → all_names_at (kept l) names 0 (parts_of l) ≡ told_names l names
striped_list l names some = by_count l.count refl
  where
    by_count : (c : ℕ) → l.count ≡ c → all_names_at (kept l) names 0 (if l.count == 0 then 1 else l.count) ≡ told_names l names
    by_count zero e = absurd (some e)
    by_count (suc c) e =
        ap (λ k. all_names_at (kept l) names 0 (if k == 0 then 1 else k)) e ∙ ap (λ b. all_names_at (kept l) names 0 (if b then 1 else suc c)) (eqb-suc-zero c)
        ∙ ap (λ k. all_names_at (kept l) names 0 k) (sym e) ∙ from_one l names 0 l.count

plain_list : (s g : ℕ) (names : Names) → nat_lt 32 (len names) ≡ false → all_names_at (record { count = 0; start = s; generation = g }) names 0 1 ≡ entries names
unfolding all_names_at
plain_list s g names few =
    let is = len-entries names in
    let low : len names ≤ 32 = grind (arith, nat_tests) in
    append-nil (names_at (record { count = 0; start = s; generation = g }) names 0) ∙ sym (plain_names s g names) ∙ take_all 33 (entries names) (omega (arith, is, low))

pub all_listed_are_there : (l : Layout) (names : Names) → nat_lt 32 (len names) ≡ false → from_entries {R = name_cmp} (all_names_at (kept l) names 0 (parts_of l)) ≡ names
all_listed_are_there l names few = by_count l.count refl
  where
    by_count : (c : ℕ) → l.count ≡ c → from_entries {R = name_cmp} (all_names_at (kept l) names 0 (parts_of l)) ≡ names
    by_count zero e =
        ap (λ k. from_entries {R = name_cmp} (all_names_at (record { count = k; start = l.start; generation = l.generation }) names 0 (if k == 0 then 1 else k))) e
        ∙ ap (λ es. from_entries {R = name_cmp} es) (plain_list l.start l.generation names few) ∙ again names
    by_count (suc c) e =
        let some : l.count ≢ 0 = λ z. absurd (omega (arith, e, z)) in
        ap (λ es. from_entries {R = name_cmp} es) (striped_list l names some) ∙ (all_names_told l names some).1 few
