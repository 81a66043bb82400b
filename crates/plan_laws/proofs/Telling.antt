-- What was told stays true with one more true answer.
use Rattle.std.proofs.Common.{◌≡◌, ◌&&◌, ◌==◌, ℕ, Bool, true, false, cond, if◌then◌else◌, Option, Some, None, List, [], ◌∷◌, ◌++◌, refl, sym, ap, subst, ◌∙◌}
use Rattle.std.proofs.lemmas.Bool.{eqb-true}
use Rattle.std.specs.Ordering.{eq_by_cmp}
use Rattle.std.specs.FinMap.{get, insert, get-insert}
use Rattle.fid_space.specs.declared.fid.Fid.{Fid}
use Rattle.tree_model.specs.Tree.{named, names_of, fid_cmp, same_fid, same_name, name_cmp}
use Rattle.tree_model.specs.Keys.{Laid, layout_at}
use Rattle.tree_model.proofs.Maps.{fids_total}
use Rattle.tree_model.proofs.Fids.{fid_ties, name_ties, told_same, name_same}
use Rattle.out_update.specs.declared.result.UpdateResult.{UpdateResult}
use Rattle.striped_dir.specs.declared.layout.Layout.{Layout}
use Rattle.plan_base.specs.declared.seen.Seen.{Seen}
use Rattle.plan_base.specs.declared.seen.EntryFact.{EntryFact}
use Rattle.plan_base.specs.declared.seen.CountFact.{CountFact}
use Rattle.plan_base.specs.declared.seen.ValueFact.{ValueFact}
use Rattle.plan_base.specs.declared.seen.NamesFact.{NamesFact}
use Rattle.plan_base.specs.declared.question.Question.{Question}
use Rattle.plan_base.specs.declared.question.Question.TheVariants as question
use Rattle.plan_base.specs.Told.{Told, entry_in, count_in, value_in, names_in}
use Rattle.plan_base.specs.Listed.{listed_in}
use Rattle.plan_base.specs.Planners.{node_in, child_in, entries_in, attribute_in, told_more}
use Rattle.plan_laws.specs.Truth.{kept, seen_of, value_of, count_of, names_at, IsTrueOf, TellsTruth}

pub both_true : (a b : Bool) → (a && b) ≡ true → (a ≡ true) × (b ≡ true)
both_true true b h = (refl, h)
both_true false b h = (h, cc)

pub fids_same : (a b : Fid) → same_fid a b ≡ true → a ≡ b
fids_same a b h = told_same a b (sym (fid_ties a b) ∙ h)

pub names_same : (x y : List ℕ) → same_name x y ≡ true → x ≡ y
names_same x y h = name_same x y (sym (name_ties x y) ∙ h)

some_same : {A : Type 0} → (a b : A) → Some a ≡ Some b → a ≡ b
some_same a b h = cc

-- an entry more
entry_more : (es : List EntryFact) (e : EntryFact) (d : Fid) (x : List ℕ) (c truth : Option Fid) → ((c : Option Fid) → entry_in es d x ≡ Some c → c ≡ truth)
    → (e.directory ≡ d → e.name ≡ x → e.child ≡ truth) → entry_in (es ++ e ∷ []) d x ≡ Some c → c ≡ truth
entry_more [] e d x c truth h k = last (same_fid e.directory d && same_name e.name x) refl
  where
    last : (b : Bool) → (same_fid e.directory d && same_name e.name x) ≡ b → (if b then Some e.child else None) ≡ Some c → c ≡ truth
    last true q p = let two = both_true (same_fid e.directory d) (same_name e.name x) q in
        sym (some_same e.child c p) ∙ k (fids_same e.directory d two.0) (names_same e.name x two.1)
    last false q p = cc
entry_more (f ∷ es) e d x c truth h k = first (same_fid f.directory d && same_name f.name x) h (λ g. entry_more es e d x c truth g k)
  where
    first : (b : Bool) → ((c : Option Fid) → (if b then Some f.child else entry_in es d x) ≡ Some c → c ≡ truth)
        → (((c : Option Fid) → entry_in es d x ≡ Some c → c ≡ truth) → entry_in (es ++ e ∷ []) d x ≡ Some c → c ≡ truth)
        → (if b then Some f.child else entry_in (es ++ e ∷ []) d x) ≡ Some c → c ≡ truth
    first true h more p = h c p
    first false h more p = more h p

node_more : (l : Laid) (t : Told) (f g : Fid) (s s2 : Option Seen) → ((s : Option Seen) → get t.nodes g ≡ Some s → s ≡ seen_of l g) → s ≡ seen_of l f
    → get (insert t.nodes f s) g ≡ Some s2 → s2 ≡ seen_of l g
node_more l t f g s s2 h k p = by_fid (eq_by_cmp fid_cmp g f) refl (sym (get-insert fids_total t.nodes f s g) ∙ p)
  where
    by_fid : (b : Bool) → eq_by_cmp fid_cmp g f ≡ b → cond b (Some s) (get t.nodes g) ≡ Some s2 → s2 ≡ seen_of l g
    by_fid true q p = sym (some_same s s2 p) ∙ k ∙ ap (seen_of l) (sym (told_same g f q))
    by_fid false q p = h s2 p

-- a count more
count_more : (es : List CountFact) (e : CountFact) (d : Fid) (i n truth : ℕ) → ((n : ℕ) → count_in es d i ≡ Some n → n ≡ truth)
    → (e.directory ≡ d → e.index ≡ i → e.entries ≡ truth) → count_in (es ++ e ∷ []) d i ≡ Some n → n ≡ truth
count_more [] e d i n truth h k = last (same_fid e.directory d && (e.index == i)) refl
  where
    last : (b : Bool) → (same_fid e.directory d && (e.index == i)) ≡ b → (if b then Some e.entries else None) ≡ Some n → n ≡ truth
    last true q p = let two = both_true (same_fid e.directory d) (e.index == i) q in
        sym (some_same e.entries n p) ∙ k (fids_same e.directory d two.0) (eqb-true e.index i two.1)
    last false q p = cc
count_more (f ∷ es) e d i n truth h k = first (same_fid f.directory d && (f.index == i)) h (λ g. count_more es e d i n truth g k)
  where
    first : (b : Bool) → ((n : ℕ) → (if b then Some f.entries else count_in es d i) ≡ Some n → n ≡ truth)
        → (((n : ℕ) → count_in es d i ≡ Some n → n ≡ truth) → count_in (es ++ e ∷ []) d i ≡ Some n → n ≡ truth)
        → (if b then Some f.entries else count_in (es ++ e ∷ []) d i) ≡ Some n → n ≡ truth
    first true h more p = h n p
    first false h more p = more h p

-- an attribute more
value_more : (es : List ValueFact) (e : ValueFact) (f : Fid) (x : List ℕ) (v truth : Option (List ℕ)) → ((v : Option (List ℕ)) → value_in es f x ≡ Some v → v ≡ truth)
    → (e.fid ≡ f → e.name ≡ x → e.value ≡ truth) → value_in (es ++ e ∷ []) f x ≡ Some v → v ≡ truth
value_more [] e f x v truth h k = last (same_fid e.fid f && same_name e.name x) refl
  where
    last : (b : Bool) → (same_fid e.fid f && same_name e.name x) ≡ b → (if b then Some e.value else None) ≡ Some v → v ≡ truth
    last true q p = let two = both_true (same_fid e.fid f) (same_name e.name x) q in
        sym (some_same e.value v p) ∙ k (fids_same e.fid f two.0) (names_same e.name x two.1)
    last false q p = cc
value_more (g ∷ es) e f x v truth h k = first (same_fid g.fid f && same_name g.name x) h (λ g. value_more es e f x v truth g k)
  where
    first : (b : Bool) → ((v : Option (List ℕ)) → (if b then Some g.value else value_in es f x) ≡ Some v → v ≡ truth)
        → (((v : Option (List ℕ)) → value_in es f x ≡ Some v → v ≡ truth) → value_in (es ++ e ∷ []) f x ≡ Some v → v ≡ truth)
        → (if b then Some g.value else value_in (es ++ e ∷ []) f x) ≡ Some v → v ≡ truth
    first true h more p = h v p
    first false h more p = more h p

-- the names of a part more
names_more : (es : List NamesFact) (e : NamesFact) (d : Fid) (i : ℕ) (n truth : List (List ℕ × Fid)) → ((n : List (List ℕ × Fid)) → names_in es d i ≡ Some n → n ≡ truth)
    → (e.directory ≡ d → e.index ≡ i → e.entries ≡ truth) → names_in (es ++ e ∷ []) d i ≡ Some n → n ≡ truth
names_more [] e d i n truth h k = last (same_fid e.directory d && (e.index == i)) refl
  where
    last : (b : Bool) → (same_fid e.directory d && (e.index == i)) ≡ b → (if b then Some e.entries else None) ≡ Some n → n ≡ truth
    last true q p = let two = both_true (same_fid e.directory d) (e.index == i) q in
        sym (some_same e.entries n p) ∙ k (fids_same e.directory d two.0) (eqb-true e.index i two.1)
    last false q p = cc
names_more (f ∷ es) e d i n truth h k = first (same_fid f.directory d && (f.index == i)) h (λ g. names_more es e d i n truth g k)
  where
    first : (b : Bool) → ((n : List (List ℕ × Fid)) → (if b then Some f.entries else names_in es d i) ≡ Some n → n ≡ truth)
        → (((n : List (List ℕ × Fid)) → names_in es d i ≡ Some n → n ≡ truth) → names_in (es ++ e ∷ []) d i ≡ Some n → n ≡ truth)
        → (if b then Some f.entries else names_in (es ++ e ∷ []) d i) ≡ Some n → n ≡ truth
    first true h more p = h n p
    first false h more p = more h p

pub still_true : (l : Laid) (t : Told) (q : Question) (r : UpdateResult) → IsTrueOf l t → TellsTruth l q r → IsTrueOf l (told_more t q r)
still_true l t (question.Node f) r h k = record { nodes = λ g s p. node_more l t f g (node_in r) s (h.nodes g) k p; entries = h.entries; counts = h.counts; names = h.names; values = h.values }
still_true l t (question.Entry d layout x) r h k = record {
  nodes = h.nodes;
  entries = λ e y c p. entry_more t.entries (record { directory = d; name = x; child = child_in r }) e y c (named l.tree e y) (h.entries e y)
      (λ (u : d ≡ e) (v : x ≡ y). k ∙ (λ i. named l.tree (u i) (v i))) p;
  counts = h.counts;
  names = h.names;
  values = h.values;
}
still_true l t (question.Count d layout i) r h k = record {
  nodes = h.nodes;
  entries = h.entries;
  counts = λ e j n p. count_more t.counts (record { directory = d; index = i; entries = entries_in r }) e j n (count_of (kept (layout_at l e)) (names_of l.tree e) j) (h.counts e j)
      (λ (u : d ≡ e) (v : i ≡ j). k ∙ (λ s. count_of (kept (layout_at l (u s))) (names_of l.tree (u s)) (v s))) p;
  names = h.names;
  values = h.values;
}
still_true l t (question.Value f x) r h k = record {
  nodes = h.nodes;
  entries = h.entries;
  counts = h.counts;
  names = h.names;
  values = λ g y v p. value_more t.values (record { fid = f; name = x; value = attribute_in r }) g y v (value_of l g y) (h.values g y)
      (λ (u : f ≡ g) (w : x ≡ y). k ∙ (λ s. value_of l (u s) (w s))) p;
}
still_true l t (question.Names d layout i) r h k = record {
  nodes = h.nodes;
  entries = h.entries;
  counts = h.counts;
  names = λ e j n p. names_more t.names (record { directory = d; index = i; entries = listed_in r }) e j n (names_at (kept (layout_at l e)) (names_of l.tree e) j) (h.names e j)
      (λ (u : d ≡ e) (v : i ≡ j). k ∙ (λ s. names_at (kept (layout_at l (u s))) (names_of l.tree (u s)) (v s))) p;
  values = h.values;
}
