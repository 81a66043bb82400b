-- What is read of an object is what stands in it.
use Rattle.std.proofs.Common.{◌≡◌, ◌<◌, ◌^◌, ℕ, List, [], ◌++◌, length, Option, Some, None, refl, sym, ap, ◌∙◌, append-nil}
use Rattle.std.specs.Int.{w32}
use Rattle.std.specs.FinMap.{get, len}
use Rattle.fid_space.specs.declared.fid.Fid.{Fid}
use Rattle.fid_space.specs.FidText.{IsFid}
use Rattle.byte_grammar.specs.Numbers.{word}
use Rattle.byte_grammar.specs.Values.{number_at}
use Rattle.byte_grammar.proofs.Bytes.{wide32}
use Rattle.byte_grammar.proofs.Again.{number_back}
use Rattle.out_update.specs.Spelling.{fid_bytes}
use Rattle.out_update.specs.Values.{fid_value, front}
use Rattle.out_update.proofs.RequestValues.{fid_back}
use Rattle.object_store.specs.Bodies.{FitsBody, body_bytes}
use Rattle.object_store.specs.Objects.{Object}
use Rattle.object_store.specs.Reads.{child_get, value_get}
use Rattle.object_store.proofs.ImageBodies.{body_again}
use Rattle.plan_base.specs.Planners.{child_in, attribute_in, seen_in, seen_behind, number_or_none}
use Rattle.plan_laws.specs.Readback.{NodesReadBack, ChildrenReadBack, CountsReadBack, ValuesReadBack}

pub nodes_back : NodesReadBack
unfolding seen_in
nodes_back o h small =
    let n = len o.attributes in
    let rest = word w32 n ++ word w32 0 in
    rw (body_again (length (body_bytes o.body ++ rest)) o.body rest h.allowed h.owner.0 h.owner.1 h.fid, number_back w32 wide32 n (word w32 0) small) refl

pub child_back : (c : Option Fid) → ((f : Fid) → c ≡ Some f → IsFid f) → child_in (child_get c) ≡ c
child_back None h = refl
child_back (Some f) h = ap front (ap fid_value (sym (append-nil (fid_bytes f))) ∙ fid_back f [] (h f refl))

pub children_back : ChildrenReadBack
children_back o x h = child_back (get o.entries x) h

pub counts_back : CountsReadBack
counts_back o h = ap number_or_none (ap (number_at w32) (sym (append-nil (word w32 (len o.entries)))) ∙ number_back w32 wide32 (len o.entries) [] h)

pub values_back : ValuesReadBack
values_back o x = by_value (get o.attributes x)
  where
    by_value : (v : Option (List ℕ)) → attribute_in (value_get v) ≡ v
    by_value None = refl
    by_value (Some v) = refl
