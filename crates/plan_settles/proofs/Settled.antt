-- What a planner decides after answers is settled by them.
use Rattle.std.proofs.Common.{◌≡◌, ◌≤◌, ◌<◌, ◌&&◌, is_some, inl, inr, ⊎_elim, ℕ, zero, suc, not, Bool, true, false, if◌then◌else◌, Option, Some, None, Result, Err, List, [], ◌∷◌, length, refl, sym, ap, ◌∙◌, subst, arith, true≢false}
use Rattle.std.proofs.Math.Dec.{eqb-suc-zero}
use Rattle.std.specs.List.{AllByRecursion, flat_map}
use Rattle.std.specs.FinMap.{get}
use Rattle.fid_space.specs.declared.fid.Fid.{Fid}
use Rattle.fid_space.specs.Places.{is_stripe}
use Rattle.tree_model.specs.declared.op.Op.{Op}
use Rattle.tree_model.specs.Kept.{laid_of}
use Rattle.tree_model.specs.Keys.{Key, NodeKey, NameKey, AllKey, Laid, layout_at}
use Rattle.tree_model.specs.Laws.{Among}
use Rattle.tree_model.specs.Looks.{looks}
use Rattle.out_update.specs.declared.update.Update.{Update}
use Rattle.out_update.specs.declared.result.UpdateResult.{UpdateResult}
use Rattle.striped_dir.specs.declared.layout.Layout.{Layout as Kept}
use Rattle.striped_dir.specs.declared.plan.Decision.{Decision}
use Rattle.striped_dir.specs.declared.plan.Step.TheVariants as steps
use Rattle.striped_dir.specs.Layouts.{laid}
use Rattle.striped_dir.specs.Parts.{part_of_name}
use Rattle.tree_sound.specs.Sound.{IsSound, IsNodeFid}
use Rattle.tree_sound.proofs.Basics.{In}
use Rattle.tree_sound.proofs.Story.{histories_sound, directories_fit}
use Rattle.op_laws.specs.Objects.{is_among, part_named, stands, saw, owner}
use Rattle.op_laws.specs.Objects.{parts_of as objects_of}
use Rattle.op_laws.specs.Near.{key_fid}
use Rattle.op_laws.proofs.Ground.{Ground, ground}
use Rattle.op_laws.proofs.Lists.{each_in, all_of, in_of, in_flat, from_flat}
use Rattle.op_laws.proofs.Names.{no_stripe, own_owner}
use Rattle.op_laws.proofs.Near.{asked_near}
use Rattle.op_laws.proofs.Places.{only}
use Rattle.op_laws.proofs.Stripes.{at_below, in_below}
use Rattle.update_protocol.specs.Facts.{Fact, is_told}
use Rattle.update_protocol.specs.Lists.{IsIn}
use Rattle.plan_base.specs.declared.outcome.Outcome.{Outcome}
use Rattle.plan_base.specs.declared.question.Question.{Question}
use Rattle.plan_base.specs.declared.question.Question.TheVariants as question
use Rattle.plan_base.specs.declared.question.Stop.{Stop}
use Rattle.plan_base.specs.declared.question.Stop.TheVariants as stop
use Rattle.plan_base.specs.Places.{parts_of, entry_at, count_at}
use Rattle.plan_base.specs.Planning.{asks}
use Rattle.plan_base.specs.Planners.{need_of, step_at}
use Rattle.plan_base.specs.Told.{Told, untold}
use Rattle.plan_laws.specs.Truth.{IsLaid, over, questions, keys_of_question, keys_asked, first_open, is_known, or_outcome}
use Rattle.plan_laws.proofs.Reaching.{reaching}
use Rattle.plan_shares.specs.Sharing.{AreCounted}
use Rattle.plan_shares.proofs.Replies.{IsEnd, ends, matches, open_one}
use Rattle.plan_shares.proofs.Sharing.{part_fid, entry_is, count_is, name_part}
use Rattle.plan_shares.proofs.Sharing.{placed as part_placed}
use Rattle.plan_settles.specs.Settling.{Answers, told_all, facts_of, objects_with, AnswersSettle}
use Rattle.plan_parts.proofs.Decided.{Looked, values_looked, decisions_are}
use Rattle.plan_settles.proofs.Counts.{entries_are_few}
use Rattle.plan_settles.proofs.Hearing.{heard_is, all_known, objects_are}
use Rattle.plan_settles.proofs.Attempts.{untold_true, all_true, asked_when, known_asked, nothing_known, same_ask, SameAsked}
use Rattle.plan_parts.proofs.Questions.{all_parts, all_listed, some_parts, ValueHas}

among_of : (ks : List Key) (k : Key) → In ks k → Among ks k
among_of [] k h = h
among_of (j ∷ js) k h = ⊎_elim (λ e. inl e) (λ m. inr (among_of js k m)) h

module _ (targets most : ℕ) (some : 1 ≤ targets) (few : targets ≤ 16) (bound : most ≤ 0x0ffffffe) (l : Laid) (sound : IsSound targets most l) where
  -- ---- the object of an ask

  entry_object : (d : Fid) (layout : Kept) (x : List ℕ) → IsLaid l (question.Entry d layout x) → (need_of targets (question.Entry d layout x)).ask.fid ≡ part_named targets d (layout_at l d) x
  entry_object d layout x h =
      let lay = layout_at l d in
      let fit = directories_fit targets most l d few bound sound h.1 in
      let p = part_placed targets d lay.count lay.start lay.generation (part_of_name lay x) some few fit in
      ap (λ (k : Kept). (entry_at targets d (laid k) x).1) h.0 ∙ ap (λ a. a.1) (entry_is targets d lay x fit p) ∙ sym (name_part targets d lay.count lay.start lay.generation x)

  count_object : (d : Fid) (layout : Kept) (i : ℕ) → IsLaid l (question.Count d layout i) → (need_of targets (question.Count d layout i)).ask.fid ≡ part_fid targets d (layout_at l d) i
  count_object d layout i h =
      let lay = layout_at l d in
      let fit = directories_fit targets most l d few bound sound h.1 in
      let p = part_placed targets d lay.count lay.start lay.generation i some few fit in
      let within = subst (λ (k : Kept). i < parts_of (laid k)) h.0 h.2 in
      ap (λ (k : Kept). (count_at targets d (laid k) i).1) h.0 ∙ ap (λ a. a.1) (count_is targets d lay i fit within p)

  names_object : (d : Fid) (layout : Kept) (i : ℕ) → IsLaid l (question.Names d layout i) → (need_of targets (question.Names d layout i)).ask.fid ≡ part_fid targets d (layout_at l d) i
  names_object d layout i h =
      let lay = layout_at l d in
      let fit = directories_fit targets most l d few bound sound h.1 in
      let p = part_placed targets d lay.count lay.start lay.generation i some few fit in
      let within = subst (λ (k : Kept). i < parts_of (laid k)) h.0 h.2 in
      ap (λ (k : Kept). (count_at targets d (laid k) i).1) h.0 ∙ ap (λ a. a.1) (count_is targets d lay i fit within p)

-- the objects of a directory are its parts
part_is : (targets : ℕ) (d : Fid) (c s g i : ℕ) → i < parts_of (record { count = c; start = s; generation = g }) → In (objects_of targets d (record { count = c; start = s; generation = g })) (part_fid targets d (record { count = c; start = s; generation = g }) i)
part_is targets d zero s g i low = inl refl
part_is targets d (suc c) s g i low = at_below targets d (record { count = suc c; start = s; generation = g }) (suc c) i (subst (λ b. i < (if b then 1 else suc c)) (eqb-suc-zero c) low)

is_part : (targets : ℕ) (d : Fid) (c s g : ℕ) (x : Fid) → In (objects_of targets d (record { count = c; start = s; generation = g })) x
    → (i : ℕ) × (i < parts_of (record { count = c; start = s; generation = g })) × (part_fid targets d (record { count = c; start = s; generation = g }) i ≡ x)
is_part targets d zero s g x m = (0, omega arith, only m)
is_part targets d (suc c) s g x m =
    let p = in_below targets d (record { count = suc c; start = s; generation = g }) (suc c) x m in
    (p.0, subst (λ b. p.0 < (if b then 1 else suc c)) (sym (eqb-suc-zero c)) p.1, p.2)

not_both_true : (a : Bool) → not (true && a) ≡ true → a ≡ false
not_both_true true h = absurd (true≢false (sym h))
not_both_true false h = refl

module _ (targets most : ℕ) (some : 1 ≤ targets) (few : targets ≤ 16) (bound : most ≤ 0x0ffffffe) (l : Laid) (sound : IsSound targets most l) (op : Op) (qs : List Question)
    (keys : keys_asked qs ≡ looks targets l.tree op) (of_tree : AllByRecursion (IsLaid l) qs) (values : AllByRecursion (ValueHas (Looked targets l op)) qs)
    (parts : (d : Fid) (layout : Kept) (i j : ℕ) → j < parts_of (laid layout) → In qs (question.Count d layout i) → In qs (question.Count d layout j))
    (listed : (d : Fid) (layout : Kept) (i j : ℕ) → j < parts_of (laid layout) → In qs (question.Names d layout i) → In qs (question.Names d layout j)) where
  g : Ground targets l
  g = ground targets most l sound

  looked_at : (q : Question) (k : Key) → In qs q → In (keys_of_question q) k → Among (looks targets l.tree op) k
  looked_at q k m h = subst (λ ks. Among ks k) keys (among_of (keys_asked qs) k (in_flat keys_of_question qs q k m h))

  abbrev IsNear : Update → Type 0
  IsNear u = (k : Key) × Among (looks targets l.tree op) k × (key_fid k ≡ owner targets u.fid)

  -- ---- each ask whose writer is told is near

  near : (q : Question) → In qs q → IsLaid l q → ValueHas (Looked targets l op) q → is_told targets (need_of targets q).ask ≡ true → IsNear (need_of targets q).ask
  near (question.Node f) m h v told = (NodeKey f, looked_at (question.Node f) (NodeKey f) m (inl refl), sym (own_owner targets f (not_both_true (is_stripe targets f) told)))
  near (question.Value f x) m h v told = (NodeKey f, v.0, sym (own_owner targets f (no_stripe targets f (ground_called f v.1))))
    where
      ground_called : (f : Fid) → is_some (get l.tree.nodes f) ≡ true → IsNodeFid targets f
      ground_called f h = (ground targets most l sound).called f h
  near (question.Entry d layout x) m h v told = (
    NameKey d x,
    looked_at (question.Entry d layout x) (NameKey d x) m (inl refl),
    asked_near targets some few l (ground targets most l sound) (NameKey d x) (need_of targets (question.Entry d layout x)).ask.fid h.1 (inl (sym (entry_object targets most some few bound l sound d layout x h))),
  )
  near (question.Count d layout i) m h v told = (
    AllKey d,
    looked_at (question.Count d layout 0) (AllKey d) (parts d layout i 0 (some_parts layout) m) (inl refl),
    asked_near targets some few l (ground targets most l sound) (AllKey d) (need_of targets (question.Count d layout i)).ask.fid h.1
        (subst (λ f. In (objects_of targets d (layout_at l d)) f) (sym (count_object targets most some few bound l sound d layout i h))
        (part_is targets d (layout_at l d).count (layout_at l d).start (layout_at l d).generation i (subst (λ (k : Kept). i < parts_of (laid k)) h.0 h.2))),
  )
  near (question.Names d layout i) m h v told = (
    AllKey d,
    looked_at (question.Names d layout 0) (AllKey d) (listed d layout i 0 (some_parts layout) m) (inl refl),
    asked_near targets some few l (ground targets most l sound) (AllKey d) (need_of targets (question.Names d layout i)).ask.fid h.1
        (subst (λ f. In (objects_of targets d (layout_at l d)) f) (sym (names_object targets most some few bound l sound d layout i h))
        (part_is targets d (layout_at l d).count (layout_at l d).start (layout_at l d).generation i (subst (λ (k : Kept). i < parts_of (laid k)) h.0 h.2))),
  )

  -- ---- each object whose writer is told was asked

  abbrev IsAsked : Fid → Type 0
  IsAsked f = (q : Question) × In qs q × ((need_of targets q).ask.fid ≡ f) × (is_told targets (need_of targets q).ask ≡ true)

  by_question : (q : Question) (k : Key) (f : Fid) → In qs q → In (keys_of_question q) k → In (stands targets l k) f → IsAsked f
  by_question (question.Node n) k f m h s = by_test (is_stripe targets n) refl (subst (λ k. In (stands targets l k) f) (sym (only h)) s)
    where
      by_test : (b : Bool) → is_stripe targets n ≡ b → In (if b then [] else n ∷ []) f → IsAsked f
      by_test true e i = absurd i
      by_test false e i = (question.Node n, m, only i, ap (λ b. not (true && b)) e)
  by_question (question.Entry d layout x) k f m h s = (
    question.Entry d layout x,
    m,
    entry_object targets most some few bound l sound d layout x (each_in (IsLaid l) qs (question.Entry d layout x) of_tree m) ∙ only (subst (λ k. In (stands targets l k) f) (sym (only h)) s),
    refl,
  )
  by_question (question.Count d layout zero) k f m h s =
      let of = each_in (IsLaid l) qs (question.Count d layout zero) of_tree m in
      let lay = layout_at l d in
      let p = is_part targets d lay.count lay.start lay.generation f (subst (λ k. In (stands targets l k) f) (sym (only h)) s) in
      let within = subst (λ (k : Kept). p.0 < parts_of (laid k)) (sym of.0) p.1 in
      (question.Count d layout p.0, parts d layout 0 p.0 within m, count_object targets most some few bound l sound d layout p.0 (of.0, of.1, within) ∙ p.2, refl)
  by_question (question.Count d layout (suc i)) k f m h s = absurd h
  by_question (question.Value n x) k f m h s = absurd h
  by_question (question.Names d layout zero) k f m h s =
      let of = each_in (IsLaid l) qs (question.Names d layout zero) of_tree m in
      let lay = layout_at l d in
      let p = is_part targets d lay.count lay.start lay.generation f (subst (λ k. In (stands targets l k) f) (sym (only h)) s) in
      let within = subst (λ (k : Kept). p.0 < parts_of (laid k)) (sym of.0) p.1 in
      (question.Names d layout p.0, listed d layout 0 p.0 within m, names_object targets most some few bound l sound d layout p.0 (of.0, of.1, within) ∙ p.2, refl)
  by_question (question.Names d layout (suc i)) k f m h s = absurd h

  all_asked : (f : Fid) → is_among (saw targets l op) f ≡ true → IsAsked f
  all_asked f h =
      let a = from_flat (stands targets l) (looks targets l.tree op) f (in_of (saw targets l op) f h) in
      let b = from_flat keys_of_question qs a.0 (subst (λ ks. In ks a.0) (sym keys) a.1) in
      by_question b.0 a.0 f b.1 b.2 a.2

  module _ (answers : Answers) (known : AllByRecursion (λ q. is_known (told_all untold answers) q ≡ true) qs) (within : (a : Question × UpdateResult) → IsIn a answers → In qs a.0) where
    abbrev HasFact : Fid → Type 0
    HasFact f = (u : Update) × (r : UpdateResult) × IsIn (u, r) (facts_of targets answers) × (u.fid ≡ f) × (is_told targets u ≡ true)

    fact_in : (more : Answers) (a : Question × UpdateResult) → IsIn a more → IsIn ((need_of targets a.0).ask, a.1) (facts_of targets more)
    fact_in [] a m = absurd m
    fact_in (b ∷ more) a m = ⊎_elim (λ e. inl (ap (λ (c : Question × UpdateResult). ((need_of targets c.0).ask, c.1)) e)) (λ k. inr (fact_in more a k)) m

    fact_of : (more : Answers) (u : Update) (r : UpdateResult) → IsIn (u, r) (facts_of targets more) → (a : Question × UpdateResult) × IsIn a more × ((need_of targets a.0).ask ≡ u)
    fact_of [] u r m = absurd m
    fact_of (b ∷ more) u r m = ⊎_elim (λ e. (b, inl refl, sym (ap (λ (c : Fact). c.0) e))) (λ k. let a = fact_of more u r k in (a.0, inr a.1, a.2)) m

    has_fact : (f : Fid) → IsAsked f → HasFact f
    has_fact f asked =
        let q = asked.0 in
        ⊎_elim (λ k. absurd (nothing_known q k))
        (λ (a : (a : Question × UpdateResult) × IsIn a answers × SameAsked a.0 q).
        let same = same_ask targets l a.0.0 q a.2 (each_in (IsLaid l) qs a.0.0 of_tree (within a.0 a.1)) (each_in (IsLaid l) qs q of_tree asked.1) in
        ((need_of targets a.0.0).ask, a.0.1, fact_in answers a.0 a.1, ap (λ (u : Update). u.fid) same ∙ asked.2, ap (λ (u : Update). is_told targets u) same ∙ asked.3))
        (known_asked untold answers q (each_in (λ q. is_known (told_all untold answers) q ≡ true) qs q known asked.1))

    fact_near : (u : Update) (r : UpdateResult) → IsIn (u, r) (facts_of targets answers) → is_told targets u ≡ true → IsNear u
    fact_near u r m told =
        let a = fact_of answers u r m in
        let i = within a.0 a.1 in
        subst IsNear a.2 (near a.0.0 i (each_in (IsLaid l) qs a.0.0 of_tree i) (each_in (ValueHas (Looked targets l op)) qs a.0.0 values i) (ap (λ (u : Update). is_told targets u) a.2 ∙ told))

-- ---- the law

-- a decision waits for no answer
closed : (targets : ℕ) (op : Op) (d : Decision) (o : Option Question) (r : Result Outcome Stop) → step_at targets op (or_outcome o r) ≡ steps.Decided d → o ≡ None
closed targets op d None r h = refl
closed targets op d (Some q) r h = cc

-- what is asked is the first open question of the tree
first_is : (t : Told) (qs : List Question) (q : Question) (o : Option Question) → first_open t qs ≡ o → (r : Result Outcome Stop) → IsEnd r → or_outcome o r ≡ Err (stop.Ask q) → In qs q
first_is t qs q None e r h k = absurd (subst IsEnd k h)
first_is t qs q (Some p) e r h k = subst (In qs) (same k) (open_one (In qs) t qs p e (all_of (In qs) qs (λ x m. m)))
  where
    same : ◌≡◌ {A = Result Outcome Stop} (Err (stop.Ask p)) (Err (stop.Ask q)) → p ≡ q
    same c = cc

pub answers_settle : AnswersSettle
answers_settle targets batch op answers d some few asked decided history fits true_of =
    let l = laid_of targets history in
    let most = length history in
    let bound : most < 0x0ffffffe = fits.few in
    let low : most ≤ 0x0ffffffe = omega (arith, bound) in
    let sound = histories_sound targets history fits.each in
    let counted : AreCounted l = λ e. (let n = entries_are_few targets history e in omega (arith, n, bound)) in
    let t = told_all untold answers in
    let a = asks targets batch op in
    let qs = questions l a in
    let m = matches targets most batch l op sound in
    let true_told = all_true targets most some few low l sound counted batch op untold answers (untold_true l) asked true_of in
    let trees = decisions_are targets most batch l op t d some few sound bound true_told decided in
    let none = closed targets op d (first_open t qs) (over l a) (ap (step_at targets op) (sym (reaching l t true_told a m.same.2)) ∙ decided) in
    let known = all_known t qs none in
    let values = values_looked targets most batch l op some few sound bound in
    let parts : (d : Fid) (layout : Kept) (i j : ℕ) → j < parts_of (laid layout) → In qs (question.Count d layout i) → In qs (question.Count d layout j) = λ d layout i j low m. all_parts l d layout i j low a m in
    let listed : (d : Fid) (layout : Kept) (i j : ℕ) → j < parts_of (laid layout) → In qs (question.Names d layout i) → In qs (question.Names d layout j) = λ d layout i j low m. all_listed l d layout i j low a m in
    let within : (b : Question × UpdateResult) → IsIn b answers → In qs b.0 = λ b i.
    (let w = asked_when targets most some few low l sound counted batch op untold answers (untold_true l) asked true_of b i in
    first_is w.told qs b.0 (first_open w.told qs) refl (over l a) (ends l a) (sym (reaching l w.told w.true_of a m.same.2) ∙ w.asks)) in
    let told = ap (λ rs. flat_map (objects_with targets) rs) (heard_is l t true_told a m.same.2 none) ∙ objects_are targets l qs m.same.2 ∙ ap (λ ks. flat_map (stands targets l) ks) m.same.1 in
    record {
      reply = trees.reply;
      parts = trees.parts;
      saw = told;
      asked_near = λ u r i k. fact_near targets most some few low l sound op qs m.same.1 m.same.2 values parts listed answers known within u r i k;
      asked = λ f h. has_fact targets most some few low l sound op qs m.same.1 m.same.2 values parts listed answers known within f
          (all_asked targets most some few low l sound op qs m.same.1 m.same.2 values parts listed f (subst (λ xs. is_among xs f ≡ true) told h));
    }
