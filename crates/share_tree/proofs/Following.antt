-- What comes next follows one list: the items of each object, by the objects' FIDs and then by names.
use Rattle.std.proofs.Common.{◌≡◌, ℕ, List, [], ◌∷◌, ◌++◌, map, Option, Some, None, refl, sym, ap, ◌∙◌}
use Rattle.std.specs.List.{flat_map}
use Rattle.std.specs.Option.{option_map}
use Rattle.std.specs.FinMap.{FinMap, get, entries}
use Rattle.fid_space.specs.declared.fid.Fid.{Fid}
use Rattle.tree_model.specs.Fids.{fid_cmp, name_cmp}
use Rattle.tree_model.proofs.Maps.{fids_total, names_total}
use Rattle.object_store.specs.Objects.{Object, ObjectMap}
use Rattle.object_store.specs.Following.{Entry, Attribute, behind, or_else, first_of, directory_of, first_entry, entry_there, next_entry, first_attribute, attribute_there, next_attribute}
use Rattle.share_tree.specs.Told.{entries_in, attributes_in}
use Rattle.share_tree.specs.TreeLaws.{head, EntriesFollow, AttributesFollow}
use Rattle.share_tree.proofs.Suffixes.{ends_later, all_behind, behind_entry, got_entry, ends_behind}

nothing : {A : Type 0} (x : A) (xs : List A) → ◌≡◌ {A = List A} [] (x ∷ xs) → ⊥
nothing x xs h = cc

head_is : {A : Type 0} (x y : A) (xs ys : List A) → x ∷ xs ≡ y ∷ ys → x ≡ y
head_is x y xs ys h = cc

tail_is : {A : Type 0} (x y : A) (xs ys : List A) → x ∷ xs ≡ y ∷ ys → xs ≡ ys
tail_is x y xs ys h = cc

pub head_append : {A : Type 0} (xs ys : List A) → head (xs ++ ys) ≡ or_else (head xs) (head ys)
head_append [] ys = refl
head_append (x ∷ xs) ys = refl

module _ {X E : Type 0} (items : Object → FinMap name_cmp X) (tell : Fid × Object → List ℕ × X → E) (key : E → Fid × List ℕ)
    (keyed : (o : Fid × Object) (x : List ℕ × X) → key (tell o x) ≡ (o.0, x.0))
  where
    abbrev pub told : Fid × Object → List E
    told o = map (tell o) (entries (items o.1))

    -- the items of an object behind a name
    abbrev pub more : Fid → List ℕ → Option Object → List E
    more f name None = []
    more f name (Some o) = map (tell (f, o)) (behind name_cmp (Some name) (entries (items o)))

    -- all items behind one
    abbrev pub left : ObjectMap → Option (Fid × List ℕ) → List E
    left m None = flat_map told (entries m)
    left m (Some a) = more a.0 a.1 (get m a.0) ++ flat_map told (behind fid_cmp (Some a.0) (entries m))

    -- behind an item of an object that is there
    left_at : (m : ObjectMap) (f : Fid) (o : Object) (before rest : List (Fid × Object)) (x : List ℕ × X) (front xs : List (List ℕ × X))
        → entries m ≡ before ++ (f, o) ∷ rest → entries (items o) ≡ front ++ x ∷ xs
        → left m (Some (f, x.0)) ≡ map (tell (f, o)) xs ++ flat_map told rest
    left_at m f o before rest x front xs is at =
        ap (λ p. more f x.0 p ++ flat_map told (behind fid_cmp (Some f) (entries m))) (got_entry fids_total m before (f, o) rest is)
        ∙ ap (λ ys. map (tell (f, o)) ys ++ flat_map told (behind fid_cmp (Some f) (entries m))) (behind_entry names_total (items o) front x xs at)
        ∙ ap (λ os. map (tell (f, o)) xs ++ flat_map told os) (behind_entry fids_total m before (f, o) rest is)

    in_key : (m : ObjectMap) (e : E) (o : Fid × Object) (x : List ℕ × X) (es : List E) → tell o x ≡ e → left m (Some (o.0, x.0)) ≡ es → left m (Some (key e)) ≡ es
    in_key m e o x es is h = ap (λ k. left m (Some k)) (ap key (sym is) ∙ keyed o x) ∙ h

    -- the first item of the objects behind some others
    on_from : (m : ObjectMap) (e : E) (es : List E) (os before : List (Fid × Object)) → entries m ≡ before ++ os → flat_map told os ≡ e ∷ es → left m (Some (key e)) ≡ es
    on_from m e es [] before is h = absurd (nothing e es h)
    on_from m e es (o ∷ os) before is h = by_items (λ k. on_from m e es os (before ++ o ∷ []) (ends_later (entries m) before os o is) k) (entries (items o.1)) refl
      where
        by_items : (flat_map told os ≡ e ∷ es → left m (Some (key e)) ≡ es) → (xs : List (List ℕ × X)) → entries (items o.1) ≡ xs → left m (Some (key e)) ≡ es
        by_items later [] at = later (ap (λ ys. map (tell o) ys ++ flat_map told os) (sym at) ∙ h)
        by_items later (x ∷ xs) at =
            let whole : tell o x ∷ (map (tell o) xs ++ flat_map told os) ≡ e ∷ es = ap (λ ys. map (tell o) ys ++ flat_map told os) (sym at) ∙ h in
            in_key m e o x es (head_is (tell o x) e (map (tell o) xs ++ flat_map told os) es whole)
            (left_at m o.0 o.1 before os x [] xs is at ∙ tail_is (tell o x) e (map (tell o) xs ++ flat_map told os) es whole)

    -- in an object that is there, or else behind it
    on_in : (m : ObjectMap) (e : E) (es : List E) (a : Fid × List ℕ) (o : Option Object) → get m a.0 ≡ o
        → more a.0 a.1 o ++ flat_map told (behind fid_cmp (Some a.0) (entries m)) ≡ e ∷ es → left m (Some (key e)) ≡ es
    on_in m e es a None there h =
        let ends = ends_behind fids_total m (Some a.0) in
        on_from m e es (behind fid_cmp (Some a.0) (entries m)) ends.0 ends.1 h
    on_in m e es a (Some o) there h = by_items (behind name_cmp (Some a.1) (entries (items o))) refl
      where
        by_items : (xs : List (List ℕ × X)) → behind name_cmp (Some a.1) (entries (items o)) ≡ xs → left m (Some (key e)) ≡ es
        by_items [] at =
            let ends = ends_behind fids_total m (Some a.0) in
            on_from m e es (behind fid_cmp (Some a.0) (entries m)) ends.0 ends.1 (ap (λ ys. map (tell (a.0, o)) ys ++ flat_map told (behind fid_cmp (Some a.0) (entries m))) (sym at) ∙ h)
        by_items (x ∷ xs) at =
            let rest = flat_map told (behind fid_cmp (Some a.0) (entries m)) in
            let ends = ends_behind names_total (items o) (Some a.1) in
            let whole : tell (a.0, o) x ∷ (map (tell (a.0, o)) xs ++ rest) ≡ e ∷ es = ap (λ ys. map (tell (a.0, o)) ys ++ rest) (sym at) ∙ h in
            let next : left m (Some (a.0, x.0)) ≡ map (tell (a.0, o)) xs ++ rest =
            ap (λ p. more a.0 x.0 p ++ rest) there
            ∙ ap (λ ys. map (tell (a.0, o)) ys ++ rest) (behind_entry names_total (items o) ends.0 x xs (ends.1 ∙ ap (λ ys. ends.0 ++ ys) at)) in
            in_key m e (a.0, o) x es (head_is (tell (a.0, o) x) e (map (tell (a.0, o)) xs ++ rest) es whole) (next ∙ tail_is (tell (a.0, o) x) e (map (tell (a.0, o)) xs ++ rest) es whole)

    -- behind the first of what is left stand the others
    pub on : (m : ObjectMap) (after : Option (Fid × List ℕ)) (e : E) (es : List E) → left m after ≡ e ∷ es → left m (Some (key e)) ≡ es
    on m None e es h = on_from m e es (entries m) [] refl h
    on m (Some a) e es h = on_in m e es a (get m a.0) refl h

    -- and so behind each of them
    pub on_all : (m : ObjectMap) (after : Option (Fid × List ℕ)) (before : List E) (e : E) (later : List E) → left m after ≡ before ++ e ∷ later → left m (Some (key e)) ≡ later
    on_all m after [] e later h = on m after e later h
    on_all m after (b ∷ before) e later h = on_all m (Some (key b)) before e later (on m after b (before ++ e ∷ later) h)

-- ---- entries

abbrev pub tell_entry : Fid × Object → List ℕ × Fid → Entry
tell_entry o x = (o.0, directory_of o.0 o.1.body, x.0, x.1)

abbrev pub entry_key : Entry → Fid × List ℕ
entry_key e = (e.0, e.2)

-- the entries behind one
abbrev pub left_entries : ObjectMap → Option (Fid × List ℕ) → List Entry
left_entries m after = left (λ o. o.entries) tell_entry entry_key (λ o x. refl) m after

first_told : (o : Fid × Object) (xs : List (List ℕ × Fid)) → option_map {U = Entry} (λ e. (o.0, directory_of o.0 o.1.body, e.0, e.1)) (first_of xs) ≡ head (map (tell_entry o) xs)
first_told o [] = refl
first_told o (x ∷ xs) = refl

first_is_head : (os : List (Fid × Object)) → first_entry os ≡ head (flat_map entries_in os)
first_is_head [] = refl
first_is_head (o ∷ os) =
    ap (λ xs. or_else (option_map {U = Entry} (λ e. (o.0, directory_of o.0 o.1.body, e.0, e.1)) (first_of xs)) (first_entry os)) (all_behind names_total (entries o.1.entries))
    ∙ ap (λ x. or_else x (first_entry os)) (first_told o (entries o.1.entries))
    ∙ ap (λ x. or_else (head (entries_in o)) x) (first_is_head os)
    ∙ sym (head_append (entries_in o) (flat_map entries_in os))

there_is_head : (f : Fid) (name : List ℕ) (o : Option Object) → entry_there f name o ≡ head (more (λ (p : Object). p.entries) tell_entry entry_key (λ o x. refl) f name o)
there_is_head f name None = refl
there_is_head f name (Some o) = first_told (f, o) (behind name_cmp (Some name) (entries o.entries))

-- the next is the first of these
pub next_is_first : (m : ObjectMap) (after : Option (Fid × List ℕ)) → next_entry m after ≡ head (left_entries m after)
unfolding next_entry
next_is_first m None = ap first_entry (all_behind fids_total (entries m)) ∙ first_is_head (entries m)
next_is_first m (Some a) =
    let rest = behind fid_cmp (Some a.0) (entries m) in
    ap (λ x. or_else x (first_entry rest)) (there_is_head a.0 a.1 (get m a.0))
    ∙ ap (λ x. or_else (head (more (λ (p : Object). p.entries) tell_entry entry_key (λ o x. refl) a.0 a.1 (get m a.0))) x) (first_is_head rest)
    ∙ sym (head_append (more (λ (p : Object). p.entries) tell_entry entry_key (λ o x. refl) a.0 a.1 (get m a.0)) (flat_map entries_in rest))

pub entry_on : (m : ObjectMap) (after : Option (Fid × List ℕ)) (e : Entry) (es : List Entry) → left_entries m after ≡ e ∷ es → left_entries m (Some (entry_key e)) ≡ es
entry_on m after e es h = on (λ o. o.entries) tell_entry entry_key (λ o x. refl) m after e es h

pub entries_follow : EntriesFollow
entries_follow m = (next_is_first m None, λ before e later h. next_is_first m (Some (entry_key e)) ∙ ap head (on_all (λ o. o.entries) tell_entry entry_key (λ o x. refl) m None before e later h))

-- ---- attributes

abbrev pub tell_attribute : Fid × Object → List ℕ × List ℕ → Attribute
tell_attribute o x = (o.0, x.0, x.1)

abbrev pub attribute_key : Attribute → Fid × List ℕ
attribute_key a = (a.0, a.1)

abbrev pub left_attributes : ObjectMap → Option (Fid × List ℕ) → List Attribute
left_attributes m after = left (λ o. o.attributes) tell_attribute attribute_key (λ o x. refl) m after

first_attribute_told : (o : Fid × Object) (xs : List (List ℕ × List ℕ)) → option_map {U = Attribute} (λ e. (o.0, e.0, e.1)) (first_of xs) ≡ head (map (tell_attribute o) xs)
first_attribute_told o [] = refl
first_attribute_told o (x ∷ xs) = refl

first_attribute_is_head : (os : List (Fid × Object)) → first_attribute os ≡ head (flat_map attributes_in os)
first_attribute_is_head [] = refl
first_attribute_is_head (o ∷ os) =
    ap (λ xs. or_else (option_map {U = Attribute} (λ e. (o.0, e.0, e.1)) (first_of xs)) (first_attribute os)) (all_behind names_total (entries o.1.attributes))
    ∙ ap (λ x. or_else x (first_attribute os)) (first_attribute_told o (entries o.1.attributes))
    ∙ ap (λ x. or_else (head (attributes_in o)) x) (first_attribute_is_head os)
    ∙ sym (head_append (attributes_in o) (flat_map attributes_in os))

attribute_is_head : (f : Fid) (name : List ℕ) (o : Option Object) → attribute_there f name o ≡ head (more (λ (p : Object). p.attributes) tell_attribute attribute_key (λ o x. refl) f name o)
attribute_is_head f name None = refl
attribute_is_head f name (Some o) = first_attribute_told (f, o) (behind name_cmp (Some name) (entries o.attributes))

pub next_attribute_is_first : (m : ObjectMap) (after : Option (Fid × List ℕ)) → next_attribute m after ≡ head (left_attributes m after)
unfolding next_attribute
next_attribute_is_first m None = ap first_attribute (all_behind fids_total (entries m)) ∙ first_attribute_is_head (entries m)
next_attribute_is_first m (Some a) =
    let rest = behind fid_cmp (Some a.0) (entries m) in
    ap (λ x. or_else x (first_attribute rest)) (attribute_is_head a.0 a.1 (get m a.0))
    ∙ ap (λ x. or_else (head (more (λ (p : Object). p.attributes) tell_attribute attribute_key (λ o x. refl) a.0 a.1 (get m a.0))) x) (first_attribute_is_head rest)
    ∙ sym (head_append (more (λ (p : Object). p.attributes) tell_attribute attribute_key (λ o x. refl) a.0 a.1 (get m a.0)) (flat_map attributes_in rest))

pub attribute_on : (m : ObjectMap) (after : Option (Fid × List ℕ)) (a : Attribute) (later : List Attribute) → left_attributes m after ≡ a ∷ later → left_attributes m (Some (attribute_key a)) ≡ later
attribute_on m after a later h = on (λ o. o.attributes) tell_attribute attribute_key (λ o x. refl) m after a later h

pub attributes_follow : AttributesFollow
attributes_follow m = (next_attribute_is_first m None, λ before a later h. next_attribute_is_first m (Some (attribute_key a)) ∙ ap head (on_all (λ o. o.attributes) tell_attribute attribute_key (λ o x. refl) m None before a later h))
