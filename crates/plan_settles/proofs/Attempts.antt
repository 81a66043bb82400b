-- What was told in an attempt is true of each history of whose shares the answers are true, and was asked for.
use Rattle.std.proofs.Common.{◌≡◌, ◌≤◌, ◌<◌, ◌⊎◌, ◌&&◌, ◌==◌, inl, inr, ⊎_elim, ℕ, Bool, true, false, cond, if◌then◌else◌, is_some, Option, Some, None, Err, List, [], ◌∷◌, ◌++◌, refl, sym, ap, ◌∙◌, subst, true≢false}
use Rattle.std.proofs.lemmas.Bool.{eqb-true}
use Rattle.std.specs.Ordering.{eq_by_cmp}
use Rattle.std.specs.Option.{unwrap_or}
use Rattle.std.specs.FinMap.{get, insert, get-insert, get-empty}
use Rattle.fid_space.specs.declared.fid.Fid.{Fid}
use Rattle.fid_space.specs.Places.{place_of}
use Rattle.tree_model.specs.declared.op.Op.{Op}
use Rattle.tree_model.specs.Fids.{fid_cmp}
use Rattle.tree_model.specs.Tree.{same_fid, same_name}
use Rattle.tree_model.specs.Keys.{Laid, layout_at}
use Rattle.tree_model.proofs.Fids.{told_same}
use Rattle.tree_model.proofs.Maps.{fids_total}
use Rattle.out_update.specs.declared.result.UpdateResult.{UpdateResult}
use Rattle.striped_dir.specs.Layouts.{laid}
use Rattle.striped_dir.specs.declared.layout.Layout.{Layout as Kept}
use Rattle.striped_dir.specs.Parts.{part_of_name}
use Rattle.object_store.specs.Reads.{reads}
use Rattle.tree_sound.specs.Sound.{IsSound}
use Rattle.tree_sound.proofs.Story.{directories_fit}
use Rattle.tree_shares.specs.Shares.{share}
use Rattle.update_protocol.specs.Facts.{AreTrue}
use Rattle.update_protocol.specs.Lists.{IsIn}
use Rattle.plan_base.specs.declared.seen.Seen.{Seen}
use Rattle.plan_base.specs.declared.seen.EntryFact.{EntryFact}
use Rattle.plan_base.specs.declared.seen.CountFact.{CountFact}
use Rattle.plan_base.specs.declared.seen.ValueFact.{ValueFact}
use Rattle.plan_base.specs.declared.seen.NamesFact.{NamesFact}
use Rattle.plan_base.specs.declared.question.Question.{Question}
use Rattle.plan_base.specs.declared.question.Question.TheVariants as question
use Rattle.plan_base.specs.declared.question.Stop.TheVariants as stop
use Rattle.plan_base.specs.Places.{count_at, entry_at, parts_of}
use Rattle.plan_base.specs.Told.{Told, untold, entry_in, count_in, value_in, names_in}
use Rattle.plan_base.specs.Planners.{need_of, told_more, reached}
use Rattle.plan_laws.specs.Truth.{kept, seen_of, IsTrueOf, IsLaid, TellsTruth, is_known}
use Rattle.plan_laws.proofs.Telling.{still_true, both_true, fids_same, names_same}
use Rattle.plan_shares.specs.Sharing.{AreCounted}
use Rattle.plan_shares.specs.Replies.{ComesTo}
use Rattle.plan_shares.proofs.Replies.{replies_are}
use Rattle.plan_shares.proofs.Sharing.{shares_tell, entry_is, count_is}
use Rattle.plan_shares.proofs.Sharing.{placed as part_placed}
use Rattle.plan_settles.specs.Settling.{Answers, told_all, AreAsked, facts_of}

-- ---- an ask goes to the place of its object

module _ (targets most : ℕ) (some : 1 ≤ targets) (few : targets ≤ 16) (bound : most ≤ 0x0ffffffe) (l : Laid) (sound : IsSound targets most l) where
  asked_at : (q : Question) → IsLaid l q → unwrap_or (place_of targets (need_of targets q).ask.fid) 0 ≡ (need_of targets q).target
  asked_at (question.Node f) h = refl
  asked_at (question.Value f x) h = refl
  asked_at (question.Entry d layout x) h =
      let lay = layout_at l d in
      let fit = directories_fit targets most l d few bound sound h.1 in
      let p = part_placed targets d lay.count lay.start lay.generation (part_of_name lay x) some few fit in
      let at : ℕ × Fid → Type 0 = λ a. unwrap_or (place_of targets a.1) 0 ≡ a.0 in
      subst (λ (k : Kept). at (entry_at targets d (laid k) x)) (sym h.0) (subst at (sym (entry_is targets d lay x fit p)) (ap (λ o. unwrap_or o 0) p.place))
  asked_at (question.Count d layout i) h =
      let lay = layout_at l d in
      let fit = directories_fit targets most l d few bound sound h.1 in
      let p = part_placed targets d lay.count lay.start lay.generation i some few fit in
      let at : ℕ × Fid → Type 0 = λ a. unwrap_or (place_of targets a.1) 0 ≡ a.0 in
      let within = subst (λ (k : Kept). i < parts_of (laid k)) h.0 h.2 in
      subst (λ (k : Kept). at (count_at targets d (laid k) i)) (sym h.0) (subst at (sym (count_is targets d lay i fit within p)) (ap (λ o. unwrap_or o 0) p.place))
  asked_at (question.Names d layout i) h =
      let lay = layout_at l d in
      let fit = directories_fit targets most l d few bound sound h.1 in
      let p = part_placed targets d lay.count lay.start lay.generation i some few fit in
      let at : ℕ × Fid → Type 0 = λ a. unwrap_or (place_of targets a.1) 0 ≡ a.0 in
      let within = subst (λ (k : Kept). i < parts_of (laid k)) h.0 h.2 in
      subst (λ (k : Kept). at (count_at targets d (laid k) i)) (sym h.0) (subst at (sym (count_is targets d lay i fit within p)) (ap (λ o. unwrap_or o 0) p.place))

  module _ (counted : AreCounted l) (batch : ℕ) (op : Op) where
    -- what is asked is of the tree, and what is answered is true of it
    pub asked_laid : (t : Told) (q : Question) → IsTrueOf l t → reached targets batch op t ≡ Err (stop.Ask q) → IsLaid l q
    asked_laid t q h e = subst (ComesTo targets l op) e (replies_are targets most batch l op t sound h)

    answer_true : (q : Question) (r : UpdateResult) → IsLaid l q → r ≡ reads (share targets l (unwrap_or (place_of targets (need_of targets q).ask.fid) 0)) (need_of targets q).ask → TellsTruth l q r
    answer_true q r h e =
        subst (TellsTruth l q) (sym (e ∙ ap (λ t. reads (share targets l t) (need_of targets q).ask) (asked_at q h))) (shares_tell targets most l q some few bound sound counted h)

    pub all_true : (t : Told) (answers : Answers) → IsTrueOf l t → AreAsked targets batch op t answers → AreTrue targets l (facts_of targets answers) → IsTrueOf l (told_all t answers)
    all_true t [] h asked true_of = h
    all_true t (a ∷ more) h asked true_of =
        let of_tree = asked_laid t a.0 h asked.0 in
        all_true (told_more t a.0 a.1) more (still_true l t a.0 a.1 h (answer_true a.0 a.1 of_tree (true_of (need_of targets a.0).ask a.1 (inl refl)))) asked.1 (λ u r m. true_of u r (inr m))

    -- when a question was asked
    pub record AskedWhen (q : Question) : Type 0 where
      pub told : Told
      pub true_of : IsTrueOf l told
      pub asks : reached targets batch op told ≡ Err (stop.Ask q)

    pub asked_when : (t : Told) (answers : Answers) → IsTrueOf l t → AreAsked targets batch op t answers → AreTrue targets l (facts_of targets answers)
        → (a : Question × UpdateResult) → IsIn a answers → AskedWhen a.0
    asked_when t [] h asked true_of a m = absurd m
    asked_when t (b ∷ more) h asked true_of a m =
        let of_tree = asked_laid t b.0 h asked.0 in
        ⊎_elim (λ e. subst (λ (b : Question × UpdateResult). AskedWhen b.0) (sym e) (record { told = t; true_of = h; asks = asked.0 }))
        (λ k. asked_when (told_more t b.0 b.1) more (still_true l t b.0 b.1 h (answer_true b.0 b.1 of_tree (true_of (need_of targets b.0).ask b.1 (inl refl)))) asked.1 (λ u r m. true_of u r (inr m)) a k) m

pub untold_true : (l : Laid) → IsTrueOf l untold
untold_true l = record { nodes = λ f s e. nothing f s e; entries = λ d x c e. cc; counts = λ d i n e. cc; names = λ d i es e. cc; values = λ f x v e. cc }
  where
    nothing : (f : Fid) (s : Option Seen) → get untold.nodes f ≡ Some s → s ≡ seen_of l f
    nothing f s e = clash (sym (get-empty {X = Option Seen} fid_cmp f) ∙ e)
      where
        clash : {A : Type 0} → ◌≡◌ {A = Option (Option Seen)} None (Some s) → A
        clash k = cc

-- ---- what is known was asked for

-- questions about the same
abbrev pub SameAsked : Question → Question → Type 0
SameAsked (question.Node f) (question.Node g) = f ≡ g
SameAsked (question.Entry d layout x) (question.Entry e other y) = (d ≡ e) × (x ≡ y)
SameAsked (question.Count d layout i) (question.Count e other j) = (d ≡ e) × (i ≡ j)
SameAsked (question.Value f x) (question.Value g y) = (f ≡ g) × (x ≡ y)
SameAsked (question.Names d layout i) (question.Names e other j) = (d ≡ e) × (i ≡ j)
SameAsked _ _ = ⊥

entry_known : (es : List EntryFact) (e : EntryFact) (d : Fid) (x : List ℕ) → is_some (entry_in (es ++ e ∷ []) d x) ≡ true → (is_some (entry_in es d x) ≡ true) ⊎ ((e.directory ≡ d) × (e.name ≡ x))
entry_known [] e d x h = last (same_fid e.directory d && same_name e.name x) refl h
  where
    last : (b : Bool) → (same_fid e.directory d && same_name e.name x) ≡ b → is_some (if b then Some e.child else None) ≡ true → (false ≡ true) ⊎ ((e.directory ≡ d) × (e.name ≡ x))
    last true q k = let two = both_true (same_fid e.directory d) (same_name e.name x) q in inr (fids_same e.directory d two.0, names_same e.name x two.1)
    last false q k = inl k
entry_known (f ∷ es) e d x h = first (same_fid f.directory d && same_name f.name x) h (entry_known es e d x)
  where
    first : (b : Bool) → is_some (if b then Some f.child else entry_in (es ++ e ∷ []) d x) ≡ true → (is_some (entry_in (es ++ e ∷ []) d x) ≡ true → (is_some (entry_in es d x) ≡ true) ⊎ ((e.directory ≡ d) × (e.name ≡ x)))
        → (is_some (if b then Some f.child else entry_in es d x) ≡ true) ⊎ ((e.directory ≡ d) × (e.name ≡ x))
    first true k more = inl refl
    first false k more = more k

count_known : (es : List CountFact) (e : CountFact) (d : Fid) (i : ℕ) → is_some (count_in (es ++ e ∷ []) d i) ≡ true → (is_some (count_in es d i) ≡ true) ⊎ ((e.directory ≡ d) × (e.index ≡ i))
count_known [] e d i h = last (same_fid e.directory d && (e.index == i)) refl h
  where
    last : (b : Bool) → (same_fid e.directory d && (e.index == i)) ≡ b → is_some (if b then Some e.entries else None) ≡ true → (false ≡ true) ⊎ ((e.directory ≡ d) × (e.index ≡ i))
    last true q k = let two = both_true (same_fid e.directory d) (e.index == i) q in inr (fids_same e.directory d two.0, eqb-true e.index i two.1)
    last false q k = inl k
count_known (f ∷ es) e d i h = first (same_fid f.directory d && (f.index == i)) h (count_known es e d i)
  where
    first : (b : Bool) → is_some (if b then Some f.entries else count_in (es ++ e ∷ []) d i) ≡ true → (is_some (count_in (es ++ e ∷ []) d i) ≡ true → (is_some (count_in es d i) ≡ true) ⊎ ((e.directory ≡ d) × (e.index ≡ i)))
        → (is_some (if b then Some f.entries else count_in es d i) ≡ true) ⊎ ((e.directory ≡ d) × (e.index ≡ i))
    first true k more = inl refl
    first false k more = more k

names_known : (es : List NamesFact) (e : NamesFact) (d : Fid) (i : ℕ) → is_some (names_in (es ++ e ∷ []) d i) ≡ true → (is_some (names_in es d i) ≡ true) ⊎ ((e.directory ≡ d) × (e.index ≡ i))
names_known [] e d i h = last (same_fid e.directory d && (e.index == i)) refl h
  where
    last : (b : Bool) → (same_fid e.directory d && (e.index == i)) ≡ b → is_some (if b then Some e.entries else None) ≡ true → (false ≡ true) ⊎ ((e.directory ≡ d) × (e.index ≡ i))
    last true q k = let two = both_true (same_fid e.directory d) (e.index == i) q in inr (fids_same e.directory d two.0, eqb-true e.index i two.1)
    last false q k = inl k
names_known (f ∷ es) e d i h = first (same_fid f.directory d && (f.index == i)) h (names_known es e d i)
  where
    first : (b : Bool) → is_some (if b then Some f.entries else names_in (es ++ e ∷ []) d i) ≡ true → (is_some (names_in (es ++ e ∷ []) d i) ≡ true → (is_some (names_in es d i) ≡ true) ⊎ ((e.directory ≡ d) × (e.index ≡ i)))
        → (is_some (if b then Some f.entries else names_in es d i) ≡ true) ⊎ ((e.directory ≡ d) × (e.index ≡ i))
    first true k more = inl refl
    first false k more = more k

value_known : (es : List ValueFact) (e : ValueFact) (f : Fid) (x : List ℕ) → is_some (value_in (es ++ e ∷ []) f x) ≡ true → (is_some (value_in es f x) ≡ true) ⊎ ((e.fid ≡ f) × (e.name ≡ x))
value_known [] e f x h = last (same_fid e.fid f && same_name e.name x) refl h
  where
    last : (b : Bool) → (same_fid e.fid f && same_name e.name x) ≡ b → is_some (if b then Some e.value else None) ≡ true → (false ≡ true) ⊎ ((e.fid ≡ f) × (e.name ≡ x))
    last true q k = let two = both_true (same_fid e.fid f) (same_name e.name x) q in inr (fids_same e.fid f two.0, names_same e.name x two.1)
    last false q k = inl k
value_known (g ∷ es) e f x h = first (same_fid g.fid f && same_name g.name x) h (value_known es e f x)
  where
    first : (b : Bool) → is_some (if b then Some g.value else value_in (es ++ e ∷ []) f x) ≡ true → (is_some (value_in (es ++ e ∷ []) f x) ≡ true → (is_some (value_in es f x) ≡ true) ⊎ ((e.fid ≡ f) × (e.name ≡ x)))
        → (is_some (if b then Some g.value else value_in es f x) ≡ true) ⊎ ((e.fid ≡ f) × (e.name ≡ x))
    first true k more = inl refl
    first false k more = more k

node_known : (t : Told) (f g : Fid) (s : Option Seen) → is_some (get (insert t.nodes f s) g) ≡ true → (is_some (get t.nodes g) ≡ true) ⊎ (f ≡ g)
node_known t f g s h = by_fid (eq_by_cmp fid_cmp g f) refl (ap is_some (sym (get-insert fids_total t.nodes f s g)) ∙ h)
  where
    by_fid : (b : Bool) → eq_by_cmp fid_cmp g f ≡ b → is_some (cond b (Some s) (get t.nodes g)) ≡ true → (is_some (get t.nodes g) ≡ true) ⊎ (f ≡ g)
    by_fid true q k = inr (sym (told_same g f q))
    by_fid false q k = inl k

-- with one answer more
more_known : (t : Told) (q p : Question) (r : UpdateResult) → is_known (told_more t q r) p ≡ true → (is_known t p ≡ true) ⊎ SameAsked q p
more_known t (question.Node f) (question.Node g) r h = node_known t f g _ h
more_known t (question.Node f) (question.Entry e o y) r h = inl h
more_known t (question.Node f) (question.Count e o j) r h = inl h
more_known t (question.Node f) (question.Value g y) r h = inl h
more_known t (question.Node f) (question.Names e o j) r h = inl h
more_known t (question.Entry d l x) (question.Node g) r h = inl h
more_known t (question.Entry d l x) (question.Entry e o y) r h = entry_known t.entries _ e y h
more_known t (question.Entry d l x) (question.Count e o j) r h = inl h
more_known t (question.Entry d l x) (question.Value g y) r h = inl h
more_known t (question.Entry d l x) (question.Names e o j) r h = inl h
more_known t (question.Count d l i) (question.Node g) r h = inl h
more_known t (question.Count d l i) (question.Entry e o y) r h = inl h
more_known t (question.Count d l i) (question.Count e o j) r h = count_known t.counts _ e j h
more_known t (question.Count d l i) (question.Value g y) r h = inl h
more_known t (question.Count d l i) (question.Names e o j) r h = inl h
more_known t (question.Value f x) (question.Node g) r h = inl h
more_known t (question.Value f x) (question.Entry e o y) r h = inl h
more_known t (question.Value f x) (question.Count e o j) r h = inl h
more_known t (question.Value f x) (question.Value g y) r h = value_known t.values _ g y h
more_known t (question.Value f x) (question.Names e o j) r h = inl h
more_known t (question.Names d l i) (question.Node g) r h = inl h
more_known t (question.Names d l i) (question.Entry e o y) r h = inl h
more_known t (question.Names d l i) (question.Count e o j) r h = inl h
more_known t (question.Names d l i) (question.Value g y) r h = inl h
more_known t (question.Names d l i) (question.Names e o j) r h = names_known t.names _ e j h

pub known_asked : (t : Told) (answers : Answers) (p : Question) → is_known (told_all t answers) p ≡ true
    → (is_known t p ≡ true) ⊎ ((a : Question × UpdateResult) × IsIn a answers × SameAsked a.0 p)
known_asked t [] p h = inl h
known_asked t (a ∷ more) p h = ⊎_elim
    (λ k. ⊎_elim (λ z. inl z) (λ s. inr (a, inl refl, s)) (more_known t a.0 p a.1 k))
    (λ k. inr (k.0, inr k.1, k.2))
    (known_asked (told_more t a.0 a.1) more p h)

pub nothing_known : (p : Question) → is_known untold p ≡ true → ⊥
nothing_known (question.Node f) h = true≢false (sym h ∙ ap is_some (get-empty {X = Option Seen} fid_cmp f))
nothing_known (question.Entry d l x) h = true≢false (sym h)
nothing_known (question.Count d l i) h = true≢false (sym h)
nothing_known (question.Value f x) h = true≢false (sym h)
nothing_known (question.Names d l i) h = true≢false (sym h)

-- of one tree they are the same
pub same_ask : (targets : ℕ) (l : Laid) (q p : Question) → SameAsked q p → IsLaid l q → IsLaid l p → (need_of targets q).ask ≡ (need_of targets p).ask
same_ask targets l (question.Node f) (question.Node g) s h k = λ i. (need_of targets (question.Node (s i))).ask
same_ask targets l (question.Value f x) (question.Value g y) s h k = λ i. (need_of targets (question.Value (s.0 i) (s.1 i))).ask
same_ask targets l (question.Entry d a x) (question.Entry e b y) s h k =
    let layouts : a ≡ b = h.0 ∙ ap (λ f. kept (layout_at l f)) s.0 ∙ sym k.0 in
    λ i. (need_of targets (question.Entry (s.0 i) (layouts i) (s.1 i))).ask
same_ask targets l (question.Count d a x) (question.Count e b y) s h k =
    let layouts : a ≡ b = h.0 ∙ ap (λ f. kept (layout_at l f)) s.0 ∙ sym k.0 in
    λ i. (need_of targets (question.Count (s.0 i) (layouts i) (s.1 i))).ask
same_ask targets l (question.Names d a x) (question.Names e b y) s h k =
    let layouts : a ≡ b = h.0 ∙ ap (λ f. kept (layout_at l f)) s.0 ∙ sym k.0 in
    λ i. (need_of targets (question.Names (s.0 i) (layouts i) (s.1 i))).ask
same_ask targets l (question.Node f) (question.Entry e o y) s h k = absurd s
same_ask targets l (question.Node f) (question.Count e o j) s h k = absurd s
same_ask targets l (question.Node f) (question.Value g y) s h k = absurd s
same_ask targets l (question.Node f) (question.Names e o j) s h k = absurd s
same_ask targets l (question.Entry d m x) (question.Node g) s h k = absurd s
same_ask targets l (question.Entry d m x) (question.Count e o j) s h k = absurd s
same_ask targets l (question.Entry d m x) (question.Value g y) s h k = absurd s
same_ask targets l (question.Entry d m x) (question.Names e o j) s h k = absurd s
same_ask targets l (question.Count d m i) (question.Node g) s h k = absurd s
same_ask targets l (question.Count d m i) (question.Entry e o y) s h k = absurd s
same_ask targets l (question.Count d m i) (question.Value g y) s h k = absurd s
same_ask targets l (question.Count d m i) (question.Names e o j) s h k = absurd s
same_ask targets l (question.Value f x) (question.Node g) s h k = absurd s
same_ask targets l (question.Value f x) (question.Entry e o y) s h k = absurd s
same_ask targets l (question.Value f x) (question.Count e o j) s h k = absurd s
same_ask targets l (question.Value f x) (question.Names e o j) s h k = absurd s
same_ask targets l (question.Names d m i) (question.Node g) s h k = absurd s
same_ask targets l (question.Names d m i) (question.Entry e o y) s h k = absurd s
same_ask targets l (question.Names d m i) (question.Count e o j) s h k = absurd s
same_ask targets l (question.Names d m i) (question.Value g y) s h k = absurd s
