-- What is so of the questions of a tree.
use Rattle.std.proofs.Common.{◌≡◌, ◌≤◌, ◌<◌, ◌+◌, inl, inr, ⊎_elim, ℕ, zero, suc, ◌==◌, Bool, true, false, if◌then◌else◌, Option, Some, None, Result, Ok, Err, List, [], ◌∷◌, ◌++◌, refl, sym, ap, subst, arith}
use Rattle.std.proofs.Math.Dec.{eqb-suc-zero}
use Rattle.std.proofs.lemmas.Bool.Decides.{eqb_tells}
use Rattle.std.specs.List.{AllByRecursion}
use Rattle.std.specs.Option.{option_map}
use Rattle.std.specs.FinMap.{get}
use Rattle.fid_space.specs.declared.fid.Fid.{Fid}
use Rattle.tree_model.specs.declared.node.Node.{Node}
use Rattle.tree_model.specs.declared.errno.Errno.TheVariants.{ENOTDIR}
use Rattle.tree_model.specs.Tree.{named, names_of, same_fid, root_fid}
use Rattle.tree_model.specs.Keys.{Laid, layout_at}
use Rattle.striped_dir.specs.declared.layout.Layout.{Layout}
use Rattle.striped_dir.specs.Layouts.{laid}
use Rattle.object_store.specs.Meaning.{is_directory}
use Rattle.tree_sound.proofs.Basics.{In, in_either}
use Rattle.op_laws.proofs.Lists.{in_left, in_right}
use Rattle.plan_base.specs.declared.seen.Seen.{Seen}
use Rattle.plan_base.specs.declared.outcome.Outcome.{Outcome}
use Rattle.plan_base.specs.declared.question.Question.{Question}
use Rattle.plan_base.specs.declared.question.Question.TheVariants as question
use Rattle.plan_base.specs.declared.question.Stop.{Stop}
use Rattle.plan_base.specs.declared.question.Stop.TheVariants as stop
use Rattle.plan_base.specs.Places.{parts_of}
use Rattle.plan_base.specs.Asks.{Asks, AskDirectory, AskNode, AskValue, AskEntry, AskEmpty, AskNames, AskWalk, Refuse, Settle, directory_seen, parent_seen}
use Rattle.plan_laws.specs.Truth.{kind_of_node, seen_node, seen_of, value_of, none_of, all_names_at, walk_over, part_questions, name_questions, walk_questions, if_ok, if_none, questions}
use Rattle.plan_parts.proofs.Over.{Over}

-- ---- all parts of a directory are asked with one

pub some_parts : (layout : Layout) → 0 < parts_of (laid layout)
some_parts layout = by_count layout.count
  where
    by_count : (c : ℕ) → 0 < (if c == 0 then 1 else c)
    by_count zero = omega arith
    by_count (suc c) = subst (λ b. 0 < (if b then 1 else suc c)) (sym (eqb-suc-zero c)) (omega arith)

part_asked : (d : Fid) (layout : Layout) (k n j : ℕ) → k ≤ j → j < k + n → In (part_questions d layout k n) (question.Count d layout j)
unfolding part_questions
part_asked d layout k zero j low high = absurd (omega (arith, low, high))
part_asked d layout k (suc n) j low high = elim (eqb_tells k j) [
  | inl e ↦ inl (ap (λ i. question.Count d layout i) e.1)
  | inr e ↦ let ne = e.1 in inr (part_asked d layout (suc k) n j (omega (arith, low, ne)) (omega (arith, high)))
]

-- a question about a part is one of these
abbrev IsCount : Question → Fid → Layout → Type 0
IsCount (question.Node f) d layout = ⊥
IsCount (question.Entry e other x) d layout = ⊥
IsCount (question.Count e other i) d layout = (e ≡ d) × (other ≡ layout)
IsCount (question.Value f x) d layout = ⊥
IsCount (question.Names e other i) d layout = ⊥

part_of : (d : Fid) (layout : Layout) (k n : ℕ) (q : Question) → In (part_questions d layout k n) q → IsCount q d layout
unfolding part_questions
part_of d layout k zero q m = absurd m
part_of d layout k (suc n) q m = ⊎_elim (λ e. subst (λ p. IsCount p d layout) e (refl, refl)) (λ r. part_of d layout (suc k) n q r) m

name_asked : (d : Fid) (layout : Layout) (k n j : ℕ) → k ≤ j → j < k + n → In (name_questions d layout k n) (question.Names d layout j)
unfolding name_questions
name_asked d layout k zero j low high = absurd (omega (arith, low, high))
name_asked d layout k (suc n) j low high = elim (eqb_tells k j) [
  | inl e ↦ inl (ap (λ i. question.Names d layout i) e.1)
  | inr e ↦ let ne = e.1 in inr (name_asked d layout (suc k) n j (omega (arith, low, ne)) (omega (arith, high)))
]

-- and one about the names of a part
abbrev IsNames : Question → Fid → Layout → Type 0
IsNames (question.Node f) d layout = ⊥
IsNames (question.Entry e other x) d layout = ⊥
IsNames (question.Count e other i) d layout = ⊥
IsNames (question.Value f x) d layout = ⊥
IsNames (question.Names e other i) d layout = (e ≡ d) × (other ≡ layout)

names_of_part : (d : Fid) (layout : Layout) (k n : ℕ) (q : Question) → In (name_questions d layout k n) q → IsNames q d layout
unfolding name_questions
names_of_part d layout k zero q m = absurd m
names_of_part d layout k (suc n) q m = ⊎_elim (λ e. subst (λ p. IsNames p d layout) e (refl, refl)) (λ r. names_of_part d layout (suc k) n q r) m

no_walk : (l : Laid) (moved : Fid) (left : ℕ) (at : Fid) (q : Question) → In (walk_questions l moved left at) q → (f : Fid) × (question.Node f ≡ q)
unfolding walk_questions
no_walk l moved zero at q m = absurd m
no_walk l moved (suc left) at q m = by_tests (same_fid at root_fid) (same_fid at moved) m (no_walk l moved left (parent_seen (seen_of l at)) q)
  where
    by_tests : (a b : Bool) → In (if a then [] else (if b then [] else question.Node at ∷ walk_questions l moved left (parent_seen (seen_of l at)))) q
        → (In (walk_questions l moved left (parent_seen (seen_of l at))) q → (f : Fid) × (question.Node f ≡ q)) → (f : Fid) × (question.Node f ≡ q)
    by_tests true b m more = absurd m
    by_tests false true m more = absurd m
    by_tests false false m more = ⊎_elim (λ e. (at, e)) more m

not_node : {X : Type 0} (f d : Fid) (layout : Layout) (i : ℕ) → question.Node f ≡ question.Count d layout i → X
not_node f d layout i e = absurd (subst is_node e tt)
  where
    is_node : Question → Type 0
    is_node (question.Node f) = Unit {0}
    is_node _ = ⊥

module _ (l : Laid) (d : Fid) (layout : Layout) (i j : ℕ) (low : j < parts_of (laid layout)) where
  abbrev Has : List Question → Type 0
  Has qs = In qs (question.Count d layout i) → In qs (question.Count d layout j)

  pub all_parts : (a : Asks) → Has (questions l a)
  all_parts (AskDirectory f next) m = ⊎_elim (λ e. not_node f d layout i e) (λ r. inr (behind (directory_seen (seen_of l f)) (λ s. all_parts (next s)) r)) m
    where
      behind : (r : Result Seen Stop) → ((s : Seen) → Has (questions l (next s))) → Has (if_ok r (λ s. questions l (next s)))
      behind (Ok s) more m = more s m
      behind (Err e) more m = absurd m
  all_parts (AskNode f next) m = ⊎_elim (λ e. not_node f d layout i e) (λ r. inr (all_parts (next (seen_of l f)) r)) m
  all_parts (AskValue f x next) m = ⊎_elim (λ (e : question.Value f x ≡ question.Count d layout i). cc) (λ r. inr (all_parts (next (value_of l f x)) r)) m
  all_parts (AskEntry e other x next) m = ⊎_elim (λ (k : question.Entry e other x ≡ question.Count d layout i). cc) (λ r. inr (all_parts (next (named l.tree e x)) r)) m
  all_parts (AskEmpty e other next) m =
      let n = parts_of (laid other) in
      let rest = questions l (next (none_of other (names_of l.tree e) 0 n)) in
      ⊎_elim
      (λ p.
      let is = part_of e other 0 n (question.Count d layout i) p in
      in_left (part_questions e other 0 n) rest (question.Count d layout j)
      (subst (λ f. In (part_questions f other 0 (parts_of (laid other))) (question.Count d layout j)) is.0
      (subst (λ (k : Layout). In (part_questions d k 0 (parts_of (laid k))) (question.Count d layout j)) is.1 (part_asked d layout 0 (parts_of (laid layout)) j (omega arith) (omega (arith, low))))))
      (λ r. in_right (part_questions e other 0 n) rest (question.Count d layout j) (all_parts (next (none_of other (names_of l.tree e) 0 n)) r))
      (in_either (part_questions e other 0 n) rest (question.Count d layout i) m)
  all_parts (AskNames e other next) m =
      let n = parts_of (laid other) in
      let rest = questions l (next (all_names_at other (names_of l.tree e) 0 n)) in
      ⊎_elim (λ p. absurd (names_of_part e other 0 n (question.Count d layout i) p))
      (λ r. in_right (name_questions e other 0 n) rest (question.Count d layout j) (all_parts (next (all_names_at other (names_of l.tree e) 0 n)) r))
      (in_either (name_questions e other 0 n) rest (question.Count d layout i) m)
  all_parts (AskWalk moved from next) m =
      let rest = if_none (walk_over l moved 1023 from) (questions l next) in
      ⊎_elim (λ p. let f = no_walk l moved 1023 from (question.Count d layout i) p in not_node f.0 d layout i f.1)
      (λ r. in_right (walk_questions l moved 1023 from) rest (question.Count d layout j) (behind (walk_over l moved 1023 from) (all_parts next) r))
      (in_either (walk_questions l moved 1023 from) rest (question.Count d layout i) m)
    where
      behind : (o : Option Stop) → Has (questions l next) → Has (if_none o (questions l next))
      behind None more m = more m
      behind (Some e) more m = absurd m
  all_parts (Refuse e) m = absurd m
  all_parts (Settle o) m = absurd m

no_node : {X : Type 0} (f d : Fid) (layout : Layout) (i : ℕ) → question.Node f ≡ question.Names d layout i → X
no_node f d layout i e = absurd (subst is_node e tt)
  where
    is_node : Question → Type 0
    is_node (question.Node f) = Unit {0}
    is_node _ = ⊥

module _ (l : Laid) (d : Fid) (layout : Layout) (i j : ℕ) (low : j < parts_of (laid layout)) where
  abbrev Lists : List Question → Type 0
  Lists qs = In qs (question.Names d layout i) → In qs (question.Names d layout j)

  pub all_listed : (a : Asks) → Lists (questions l a)
  all_listed (AskDirectory f next) m = ⊎_elim (λ e. no_node f d layout i e) (λ r. inr (behind (directory_seen (seen_of l f)) (λ s. all_listed (next s)) r)) m
    where
      behind : (r : Result Seen Stop) → ((s : Seen) → Lists (questions l (next s))) → Lists (if_ok r (λ s. questions l (next s)))
      behind (Ok s) more m = more s m
      behind (Err e) more m = absurd m
  all_listed (AskNode f next) m = ⊎_elim (λ e. no_node f d layout i e) (λ r. inr (all_listed (next (seen_of l f)) r)) m
  all_listed (AskValue f x next) m = ⊎_elim (λ (e : question.Value f x ≡ question.Names d layout i). cc) (λ r. inr (all_listed (next (value_of l f x)) r)) m
  all_listed (AskEntry e other x next) m = ⊎_elim (λ (k : question.Entry e other x ≡ question.Names d layout i). cc) (λ r. inr (all_listed (next (named l.tree e x)) r)) m
  all_listed (AskEmpty e other next) m =
      let n = parts_of (laid other) in
      let rest = questions l (next (none_of other (names_of l.tree e) 0 n)) in
      ⊎_elim (λ p. absurd (part_of e other 0 n (question.Names d layout i) p))
      (λ r. in_right (part_questions e other 0 n) rest (question.Names d layout j) (all_listed (next (none_of other (names_of l.tree e) 0 n)) r))
      (in_either (part_questions e other 0 n) rest (question.Names d layout i) m)
  all_listed (AskNames e other next) m =
      let n = parts_of (laid other) in
      let rest = questions l (next (all_names_at other (names_of l.tree e) 0 n)) in
      ⊎_elim
      (λ p.
      let is = names_of_part e other 0 n (question.Names d layout i) p in
      in_left (name_questions e other 0 n) rest (question.Names d layout j)
      (subst (λ f. In (name_questions f other 0 (parts_of (laid other))) (question.Names d layout j)) is.0
      (subst (λ (k : Layout). In (name_questions d k 0 (parts_of (laid k))) (question.Names d layout j)) is.1 (name_asked d layout 0 (parts_of (laid layout)) j (omega arith) (omega (arith, low))))))
      (λ r. in_right (name_questions e other 0 n) rest (question.Names d layout j) (all_listed (next (all_names_at other (names_of l.tree e) 0 n)) r))
      (in_either (name_questions e other 0 n) rest (question.Names d layout i) m)
  all_listed (AskWalk moved from next) m =
      let rest = if_none (walk_over l moved 1023 from) (questions l next) in
      ⊎_elim (λ p. let f = no_walk l moved 1023 from (question.Names d layout i) p in no_node f.0 d layout i f.1)
      (λ r. in_right (walk_questions l moved 1023 from) rest (question.Names d layout j) (behind (walk_over l moved 1023 from) (all_listed next) r))
      (in_either (walk_questions l moved 1023 from) rest (question.Names d layout i) m)
    where
      behind : (o : Option Stop) → Lists (questions l next) → Lists (if_none o (questions l next))
      behind None more m = more m
      behind (Some e) more m = absurd m
  all_listed (Refuse e) m = absurd m
  all_listed (Settle o) m = absurd m

-- ---- of which nodes a value is asked

abbrev pub ValueHas : (Fid → Type 0) → Question → Type 0
ValueHas Q (question.Node f) = Unit {0}
ValueHas Q (question.Entry d layout x) = Unit {0}
ValueHas Q (question.Count d layout i) = Unit {0}
ValueHas Q (question.Value f x) = Q f
ValueHas Q (question.Names d layout i) = Unit {0}

module _ (l : Laid) (Q : Fid → Type 0) (P : Outcome → Type 0) where
  abbrev Have : List Question → Type 0
  Have qs = AllByRecursion (ValueHas Q) qs

  both : (xs ys : List Question) → Have xs → Have ys → Have (xs ++ ys)
  both [] ys h k = k
  both (x ∷ xs) ys h k = (h.0, both xs ys h.1 k)

  parts_have : (d : Fid) (layout : Layout) (k n : ℕ) → Have (part_questions d layout k n)
  unfolding part_questions
  parts_have d layout k zero = tt
  parts_have d layout k (suc n) = (tt, parts_have d layout (suc k) n)

  names_have : (d : Fid) (layout : Layout) (k n : ℕ) → Have (name_questions d layout k n)
  unfolding name_questions
  names_have d layout k zero = tt
  names_have d layout k (suc n) = (tt, names_have d layout (suc k) n)

  walks_have : (moved : Fid) (left : ℕ) (at : Fid) → Have (walk_questions l moved left at)
  unfolding walk_questions
  walks_have moved zero at = tt
  walks_have moved (suc left) at = by_tests (same_fid at root_fid) (same_fid at moved) (walks_have moved left (parent_seen (seen_of l at)))
    where
      by_tests : (a b : Bool) → Have (walk_questions l moved left (parent_seen (seen_of l at)))
          → Have (if a then [] else (if b then [] else question.Node at ∷ walk_questions l moved left (parent_seen (seen_of l at))))
      by_tests true b h = tt
      by_tests false true h = tt
      by_tests false false h = (tt, h)

  pub values_have : (a : Asks) → Over l Q P a → Have (questions l a)
  values_have (AskDirectory f next) h = (tt, by_node (get l.tree.nodes f) h (λ s k. values_have (next s) k))
    where
      by_dir : (n : Node) (b : Bool) → (b ≡ true → Over l Q P (next (seen_node (layout_at l f) n))) → ((s : Seen) → Over l Q P (next s) → Have (questions l (next s)))
          → Have (if_ok (if is_directory (kind_of_node b) then Ok (seen_node (layout_at l f) n) else Err (stop.Refused ENOTDIR)) (λ s. questions l (next s)))
      by_dir n true k more = more (seen_node (layout_at l f) n) (k refl)
      by_dir n false k more = tt

      by_node : (w : Option Node) → ((n : Node) → w ≡ Some n → n.dir ≡ true → Over l Q P (next (seen_node (layout_at l f) n))) → ((s : Seen) → Over l Q P (next s) → Have (questions l (next s)))
          → Have (if_ok (directory_seen (option_map (seen_node (layout_at l f)) w)) (λ s. questions l (next s)))
      by_node None k more = tt
      by_node (Some n) k more = by_dir n n.dir (k n refl) more
  values_have (AskNode f next) h = (tt, values_have (next (seen_of l f)) h)
  values_have (AskValue f x next) h = (h.0, values_have (next (value_of l f x)) (h.1 (value_of l f x)))
  values_have (AskEntry d layout x next) h = (tt, values_have (next (named l.tree d x)) h)
  values_have (AskEmpty d layout next) h =
      both (part_questions d layout 0 (parts_of (laid layout))) _ (parts_have d layout 0 (parts_of (laid layout)))
      (values_have (next (none_of layout (names_of l.tree d) 0 (parts_of (laid layout)))) (h (none_of layout (names_of l.tree d) 0 (parts_of (laid layout)))))
  values_have (AskNames d layout next) h =
      both (name_questions d layout 0 (parts_of (laid layout))) _ (names_have d layout 0 (parts_of (laid layout))) (values_have (next (all_names_at layout (names_of l.tree d) 0 (parts_of (laid layout)))) h)
  values_have (AskWalk moved from next) h = both (walk_questions l moved 1023 from) _ (walks_have moved 1023 from) (behind (walk_over l moved 1023 from) (values_have next h))
    where
      behind : (o : Option Stop) → Have (questions l next) → Have (if_none o (questions l next))
      behind None k = k
      behind (Some e) k = tt
  values_have (Refuse e) h = tt
  values_have (Settle o) h = tt
