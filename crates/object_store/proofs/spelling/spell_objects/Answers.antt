use Rattle.std.proofs.Common.{◌++◌, ap, sym, subst, ◌∙◌, append_assoc}
use Rattle.std.specs.List.{flat_map, AllByRecursion}
use Rattle.std.specs.Map.Iter.{deref_pair}
use Rattle.std.proofs.lemmas.Map.Iter.{rest_more}
use Rattle.object_store.specs.ImageText.{object_text, FitsObject}
use Rattle.object_store.proofs.Fronts.{anyway, among, grown}
use Rattle.object_store.proofs.spelling.spell_objects.Goals as goal

pub loop-fid-preserved : goal.loop-fid-preserved
loop-fid-preserved c =
    let more = rest_more deref_pair c.loop-fid.fid-iterator c.next.new.self c.next.result (c.in-Some.fid, c.in-Some.object) c.in-Some.is c.next.ensures.steps in
    let out = c.loop-fid.out in (
      ap (λ l. l ++ flat_map object_text c.next.new.self) c.in_ok-spell_object.ensures.text ∙ append_assoc out (object_text (c.in-Some.fid.now, c.in-Some.object.now)) (flat_map object_text c.next.new.self)
          ∙ ap (λ rest. out ++ flat_map object_text rest) (sym more) ∙ c.loop-fid.invariant.0,
      λ rest. c.loop-fid.invariant.1 (subst (AllByRecursion FitsObject) (sym more) (c.in_ok-spell_object.ensures.fits, rest)),
      grown _ _ out _ c.in_ok-spell_object.ensures.text c.loop-fid.invariant.2,
    )

pub returns-in_err-spell_object-clause-front : goal.returns-in_err-spell_object-clause-front
returns-in_err-spell_object-clause-front c =
    let more = rest_more deref_pair c.loop-fid.fid-iterator c.next.new.self c.next.result (c.in-Some.fid, c.in-Some.object) c.in-Some.is c.next.ensures.steps in
    let out = c.loop-fid.out in
    anyway _ (among _ (flat_map object_text c.next.new.self) _ _ out _ c.loop-fid.invariant.2 (ap (λ rest. out ++ flat_map object_text rest) (sym more) ∙ c.loop-fid.invariant.0) c.in_err-spell_object.ensures.front)
