use Rattle.std.proofs.Common.{◌≡◌, ◌<◌, ◌^◌, ◌+◌, sym, ap, subst, ◌∙◌, arith}
use Rattle.std.specs.FinMap.{get, len}
use Rattle.std.proofs.lemmas.Result.{IfOk-weaker}
use Rattle.object_store.specs.Objects.{Object}
use Rattle.object_store.specs.Sizes.{IsStored}
use Rattle.object_store.proofs.Keeping.{entry_again, entry_more}
use Rattle.object_store.proofs.object.Stored.size_with_entry.Goals as goal

pub returns-in-Some : goal.returns-in-Some
returns-in-Some c =
    let stored = subst (λ (o : Object). IsStored o c.self.inside.size) c.self.view_is c.self.invariant in
    let there = ap (λ (o : Object). get o.entries c.args.name.now) (sym c.self.view_is) ∙ sym c.get.ensures ∙ c.in-Some.is in
    λ fid. let e = entry_again c.args.self.now c.args.name.now fid c.in-Some.field-0 there in (stored.exact ∙ sym e.0, subst (λ n. n < 2 ^ 32) (sym e.1) stored.few_entries)

pub returns-in-None : goal.returns-in-None
returns-in-None c =
    let exact = (subst (λ (o : Object). IsStored o c.self.inside.size) c.self.view_is c.self.invariant).exact in
    let there = ap (λ (o : Object). get o.entries c.args.name.now) (sym c.self.view_is) ∙ sym c.get.ensures ∙ c.in-None.is in
    let count = c.len.ensures.value ∙ ap (λ (o : Object). len o.entries) c.self.view_is in
    let bytes = c.name_size.ensures.value in
    IfOk-weaker c.longer.result (λ s. (s ≡ c.self.inside.size + (24 + c.name_size.result)) × (c.len.result + 1 < 2 ^ 32)) _ (λ s h fid.
    let e = entry_more c.args.self.now c.args.name.now fid there in
    let more = e.0 in
    let one = e.1 in
    let sum = h.0 in
    let few = h.1 in
    (omega (arith, more, sum, exact, bytes), omega (arith, one, few, count))) c.longer.ensures
