-- What is left of an image that is given piece by piece.
use Rattle.std.specs.Prelude.{◌≡◌, ℕ, ◌≤◌, List, [], ◌++◌, length, take, drop, min, Option, Some, None}
use Rattle.std.specs.Int.{w32}
use Rattle.std.specs.List.{flat_map, AllByRecursion}
use Rattle.std.specs.FinMap.{len}
use Rattle.byte_grammar.specs.Numbers.{word}
use Rattle.fid_space.specs.declared.fid.Fid.{Fid}
use Rattle.out_update.specs.Spelling.{fid_bytes}
use Rattle.object_store.specs.Bodies.{body_bytes}
use Rattle.object_store.specs.Objects.{Object}
use Rattle.object_store.specs.ImageText.{entry_text, attribute_text, object_text}
use Rattle.object_store.specs.declared.parts.Part.{Part}
use Rattle.object_store.specs.declared.parts.Part.TheVariants as part
use Rattle.object_store.specs.declared.parts.Items.{Items}
use Rattle.object_store.specs.declared.rest.Rest.{Rest}

-- a front of a text is laid over the front of what was there: as much as there is and as fits
pub record IsLaid (text old new : List ℕ) (n : ℕ) : Type 0 where
  pub count : n ≡ min (length old) (length text)
  pub bytes : new ≡ take n text ++ drop n old

-- what stands before the entries of an object
abbrev pub head_text : Fid → Object → List ℕ
head_text fid o = fid_bytes fid ++ (body_bytes o.body ++ (word w32 (len o.entries) ++ word w32 (len o.attributes)))

abbrev pub part_text : Part → List ℕ
part_text (part.Count n) = word w32 n ++ word w32 0
part_text (part.Head fid o) = head_text fid o.now
part_text (part.Entry name fid) = entry_text (name.now, fid)
part_text (part.Attribute name value) = attribute_text (name.now, value.now)

abbrev pub maybe_part : Option Part → List ℕ
maybe_part None = []
maybe_part (Some p) = part_text p

abbrev pub items_text : Items → List ℕ
items_text i = flat_map entry_text i.entries ++ flat_map attribute_text i.attributes

abbrev pub maybe_items : Option Items → List ℕ
maybe_items None = []
maybe_items (Some i) = items_text i

-- what stands behind a part: the other items of its object, and the objects behind that one
abbrev pub behind_text : Rest → List ℕ
behind_text r = maybe_items r.items ++ flat_map object_text r.objects

unfoldable pub left_text : Rest → List ℕ
left_text r = drop r.skip (part_text r.part ++ behind_text r)

-- values are short

abbrev pub PartFits : Part → Type 0
PartFits (part.Attribute name value) = length value.now ≤ 4096
PartFits _ = Unit {0}

abbrev pub MaybePartFits : Option Part → Type 0
MaybePartFits None = Unit {0}
MaybePartFits (Some p) = PartFits p

abbrev pub ItemsFit : Items → Type 0
ItemsFit i = AllByRecursion (λ a. length a.1 ≤ 4096) i.attributes

abbrev pub MaybeItemsFit : Option Items → Type 0
MaybeItemsFit None = Unit {0}
MaybeItemsFit (Some i) = ItemsFit i

pub record RestFits (r : Rest) : Type 0 where
  pub part : PartFits r.part
  pub items : MaybeItemsFit r.items
