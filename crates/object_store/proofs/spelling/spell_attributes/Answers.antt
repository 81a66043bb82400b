use Rattle.std.proofs.Common.{◌≡◌, ◌≤◌, ◌++◌, ℕ, List, length, ap, sym, subst, ◌∙◌, append_assoc, arith, rules}
use Rattle.std.specs.List.{flat_map, AllByRecursion}
use Rattle.std.specs.Map.Iter.{deref_pair}
use Rattle.std.proofs.lemmas.Map.Iter.{rest_more}
use Rattle.object_store.specs.ImageText.{attribute_text, FitsAttribute, IsFront}
use Rattle.object_store.proofs.Fronts.{anyway, among, grown}
use Rattle.object_store.proofs.spelling.spell_attributes.Goals as goal

pub loop-name-init : goal.loop-name-init
loop-name-init c =
    let all : c.into_iter-name-iterator.result ≡ c.args.attributes.now.entries = search rules in (
      ap (λ es. c.args.out.now ++ flat_map attribute_text es) all,
      λ fits. subst (AllByRecursion FitsAttribute) all fits,
      subst (AllByRecursion (λ (a : List ℕ × List ℕ). length a.1 ≤ 4096)) (sym all) (c.requires c.len-len.ensures.ordered),
      omega arith,
    )

pub spell_attribute-requires : goal.spell_attribute-requires
spell_attribute-requires c =
    let more = rest_more deref_pair c.loop-name.name-iterator c.next.new.self c.next.result (c.in-Some.name, c.in-Some.value) c.in-Some.is c.next.ensures.steps in
    let all = subst (AllByRecursion (λ (a : List ℕ × List ℕ). length a.1 ≤ 4096)) more c.loop-name.invariant.2 in
    subst (λ (v : List ℕ). length v ≤ 4096) (sym c.bytes.ensures) all.0

pub loop-name-preserved : goal.loop-name-preserved
loop-name-preserved c =
    let more = rest_more deref_pair c.loop-name.name-iterator c.next.new.self c.next.result (c.in-Some.name, c.in-Some.value) c.in-Some.is c.next.ensures.steps in
    let all = subst (AllByRecursion (λ (a : List ℕ × List ℕ). length a.1 ≤ 4096)) more c.loop-name.invariant.2 in
    let out = c.loop-name.out in
    let text = c.in_ok-spell_attribute.ensures.text ∙ ap (λ (v : List ℕ). out ++ attribute_text (c.in-Some.name.now, v)) c.bytes.ensures in
    let fits = subst (λ (v : List ℕ). FitsAttribute (c.in-Some.name.now, v)) c.bytes.ensures c.in_ok-spell_attribute.ensures.fits in (
      ap (λ l. l ++ flat_map attribute_text c.next.new.self) text ∙ append_assoc out (attribute_text (c.in-Some.name.now, c.in-Some.value.now)) (flat_map attribute_text c.next.new.self)
          ∙ ap (λ rest. out ++ flat_map attribute_text rest) (sym more) ∙ c.loop-name.invariant.0,
      λ rest. c.loop-name.invariant.1 (subst (AllByRecursion FitsAttribute) (sym more) (fits, rest)),
      all.1,
      grown _ _ out _ text c.loop-name.invariant.3,
    )

pub returns-in_err-spell_attribute-clause-front : goal.returns-in_err-spell_attribute-clause-front
returns-in_err-spell_attribute-clause-front c =
    let more = rest_more deref_pair c.loop-name.name-iterator c.next.new.self c.next.result (c.in-Some.name, c.in-Some.value) c.in-Some.is c.next.ensures.steps in
    let out = c.loop-name.out in
    let front = subst (λ (v : List ℕ). IsFront (attribute_text (c.in-Some.name.now, v)) out c.spell_attribute.new.out) c.bytes.ensures c.in_err-spell_attribute.ensures.front in
    anyway _ (among _ (flat_map attribute_text c.next.new.self) _ _ out _ c.loop-name.invariant.3 (ap (λ rest. out ++ flat_map attribute_text rest) (sym more) ∙ c.loop-name.invariant.0) front)
