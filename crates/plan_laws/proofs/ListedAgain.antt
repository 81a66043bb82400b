-- What is listed of an object are its first entries.
use Rattle.std.proofs.Common.{◌≡◌, ◌≤◌, ◌&&◌, nat_le, ℕ, zero, suc, true, if◌then◌else◌, Some, None, List, [], ◌∷◌, ◌++◌, length, take, refl, sym, ap, ◌∙◌, arith, append_assoc}
use Rattle.std.proofs.lemmas.Bool.Decides.{nat_tests}
use Rattle.std.proofs.lemmas.List.{length-take}
use Rattle.std.specs.Int.{w16}
use Rattle.std.specs.List.{AllByRecursion, flat_map}
use Rattle.std.specs.FinMap.{entries}
use Rattle.fid_space.specs.FidText.{IsFid}
use Rattle.byte_grammar.specs.Numbers.{word}
use Rattle.byte_grammar.specs.Values.{number_at, part_at}
use Rattle.byte_grammar.proofs.Bytes.{wide16}
use Rattle.byte_grammar.proofs.Again.{number_back, part_again}
use Rattle.out_update.specs.Spelling.{fid_bytes}
use Rattle.out_update.proofs.RequestValues.{fid_back}
use Rattle.tree_model.specs.Names.{IsName}
use Rattle.object_store.specs.Reads.{entry_bytes}
use Rattle.plan_base.specs.Listed.{Entry, is_faultless, is_name, if_named, entry_value, next_entry, and_more, entries_from}
use Rattle.plan_base.proofs.Names.{name_faultless}
use Rattle.plan_laws.specs.Readback.{NamesReadBack}

abbrev MayBeListed : Entry → Type 0
MayBeListed e = IsName e.0 × IsFid e.1

name_passes : (x : List ℕ) → IsName x → is_name x ≡ true
name_passes x is =
    let low : 1 ≤ length x = is.0 in
    let high : length x ≤ 255 = is.1 in
    let a : nat_le 1 (length x) ≡ true = grind (arith, nat_tests) in
    let b : nat_le (length x) 255 ≡ true = grind (arith, nat_tests) in
    let c = name_faultless x is in
    (λ i. a i && (b i && is_faultless (c i)))

entry_back : (e : Entry) (rest : List ℕ) → MayBeListed e → next_entry (entry_bytes e ++ rest) ≡ Some (e, rest)
unfolding next_entry entry_value
entry_back e rest is =
    let high : length e.0 ≤ 255 = is.0.1 in
    let shape : entry_bytes e ++ rest ≡ word w16 (length e.0) ++ (e.0 ++ (fid_bytes e.1 ++ rest)) = simp append_assoc in
    ap (λ bytes. if_named (entry_value bytes)) shape
    ∙ rw (number_back w16 wide16 (length e.0) (e.0 ++ (fid_bytes e.1 ++ rest)) (omega (arith, high)), part_again (length e.0) e.0 (fid_bytes e.1 ++ rest) refl, fid_back e.1 rest is.1)
    (ap (λ b. if b then Some (e, rest) else None) (name_passes e.0 is.0))

nothing_listed : next_entry [] ≡ None
unfolding next_entry entry_value number_at part_at
nothing_listed = refl

all_back : (n : ℕ) (es : List Entry) → AllByRecursion MayBeListed es → length es ≤ n → entries_from n (flat_map entry_bytes es) ≡ es
unfolding entries_from
all_back zero [] h k = refl
all_back (suc n) [] h k = ap (λ o. and_more o (entries_from n)) nothing_listed
all_back zero (e ∷ es) h k = absurd (omega (arith, k))
all_back (suc n) (e ∷ es) h k = ap (λ o. and_more o (entries_from n)) (entry_back e (flat_map entry_bytes es) h.0) ∙ ap (λ r. e ∷ r) (all_back n es h.1 (omega (arith, k)))

first_ones : (n : ℕ) (es : List Entry) → AllByRecursion MayBeListed es → AllByRecursion MayBeListed (take n es)
first_ones zero es h = tt
first_ones (suc n) [] h = tt
first_ones (suc n) (e ∷ es) h = (h.0, first_ones n es h.1)

pub names_back : NamesReadBack
names_back o h =
    let es : List Entry = entries o.entries in
    let some = length-take 33 es in
    all_back 33 (take 33 es) (first_ones 33 es h) (omega (arith, some))
