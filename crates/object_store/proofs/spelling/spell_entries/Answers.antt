use Rattle.std.proofs.Common.{◌++◌, ap, sym, subst, ◌∙◌, append_assoc}
use Rattle.std.specs.List.{flat_map, AllByRecursion}
use Rattle.std.specs.Map.Iter.{deref_pair}
use Rattle.std.proofs.lemmas.Map.Iter.{rest_more}
use Rattle.object_store.specs.ImageText.{entry_text, FitsEntry}
use Rattle.object_store.proofs.Fronts.{anyway, among, grown}
use Rattle.object_store.proofs.spelling.spell_entries.Goals as goal

pub loop-name-preserved : goal.loop-name-preserved
loop-name-preserved c =
    let more = rest_more deref_pair c.loop-name.name-iterator c.next.new.self c.next.result (c.in-Some.name, c.in-Some.fid) c.in-Some.is c.next.ensures.steps in
    let out = c.loop-name.out in (
      ap (λ l. l ++ flat_map entry_text c.next.new.self) c.in_ok-spell_entry.ensures.text ∙ append_assoc out (entry_text (c.in-Some.name.now, c.in-Some.fid.now)) (flat_map entry_text c.next.new.self)
          ∙ ap (λ rest. out ++ flat_map entry_text rest) (sym more) ∙ c.loop-name.invariant.0,
      λ rest. c.loop-name.invariant.1 (subst (AllByRecursion FitsEntry) (sym more) (c.in_ok-spell_entry.ensures.fits, rest)),
      grown _ _ out _ c.in_ok-spell_entry.ensures.text c.loop-name.invariant.2,
    )

pub returns-in_err-spell_entry-clause-front : goal.returns-in_err-spell_entry-clause-front
returns-in_err-spell_entry-clause-front c =
    let more = rest_more deref_pair c.loop-name.name-iterator c.next.new.self c.next.result (c.in-Some.name, c.in-Some.fid) c.in-Some.is c.next.ensures.steps in
    let out = c.loop-name.out in
    anyway _ (among _ (flat_map entry_text c.next.new.self) _ _ out _ c.loop-name.invariant.2 (ap (λ rest. out ++ flat_map entry_text rest) (sym more) ∙ c.loop-name.invariant.0) c.in_err-spell_entry.ensures.front)
