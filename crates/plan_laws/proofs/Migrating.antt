-- The checks of a migrate ask for the keys that its plan looks at, and come to its reply.
use Rattle.std.proofs.Common.{◌≡◌, ◌+◌, ◌≤◌, ◌==◌, nat_lt, ℕ, zero, suc, Bool, true, false, if◌then◌else◌, Option, Some, None, List, [], ◌∷◌, ◌++◌, length, refl, ap, ◌∙◌, arith}
use Rattle.std.proofs.Math.Dec.{eqb-suc-zero}
use Rattle.std.specs.List.{AllByRecursion}
use Rattle.std.specs.FinMap.{get, len}
use Rattle.fid_space.specs.declared.fid.Fid.{Fid}
use Rattle.tree_model.specs.declared.op.Op.TheVariants as ops
use Rattle.tree_model.specs.declared.reply.Reply.TheVariants as replies
use Rattle.tree_model.specs.declared.errno.Errno.TheVariants.{EFBIG}
use Rattle.tree_model.specs.Tree.{Names, names_of}
use Rattle.tree_model.specs.Step.{is_dir}
use Rattle.tree_model.specs.Changes.{NextLayout, MoveNames}
use Rattle.tree_model.specs.Keys.{AllKey, Laid, layout_at}
use Rattle.tree_model.specs.Looks.{Plan, AskAll, Decide, plan}
use Rattle.tree_model.specs.Looks.{check as plan_check}
use Rattle.striped_dir.specs.declared.layout.Layout.{Layout}
use Rattle.striped_dir.specs.Layouts.{laid}
use Rattle.plan_base.specs.declared.question.Question.{Question}
use Rattle.plan_base.specs.Places.{parts_of}
use Rattle.plan_base.specs.Asks.{Asks, AskNames, Settle}
use Rattle.plan_base.specs.Planning.{check, many_fault, migrate_fault, next_layout, Migration, migrated, asks}
use Rattle.plan_laws.specs.Truth.{kept, seen_node, all_names_at, over, name_questions, questions, keys_asked, IsLaid, Matches}
use Rattle.plan_laws.proofs.Deciding.{same_check, same_directory, same_settle}
use Rattle.plan_laws.proofs.Listing.{many_listed}

later_names : (d : Fid) (layout : Layout) (i left : ℕ) (qs : List Question) → keys_asked (name_questions d layout (suc i) left ++ qs) ≡ keys_asked qs
unfolding name_questions
later_names d layout i zero qs = refl
later_names d layout i (suc left) qs = later_names d layout (suc i) left qs

names_keys : (d : Fid) (layout : Layout) (n : ℕ) (qs : List Question) → keys_asked (name_questions d layout 0 (if n == 0 then 1 else n) ++ qs) ≡ AllKey d ∷ keys_asked qs
unfolding name_questions
names_keys d layout zero qs = refl
names_keys d layout (suc n) qs =
    ap (λ b. keys_asked (name_questions d layout 0 (if b then 1 else suc n) ++ qs)) (eqb-suc-zero n) ∙ ap (λ ks. AllKey d ∷ ks) (later_names d layout 0 n qs)

names_laid : (l : Laid) (d : Fid) (layout : Layout) (i left : ℕ) (qs : List Question) → (layout ≡ kept (layout_at l d)) × (is_dir (get l.tree.nodes d) ≡ true) → i + left ≤ parts_of (laid layout) → AllByRecursion (IsLaid l) qs
    → AllByRecursion (IsLaid l) (name_questions d layout i left ++ qs)
unfolding name_questions
names_laid l d layout i zero qs e below h = h
names_laid l d layout i (suc left) qs e below h = ((e.0, e.1, omega (arith, below)), names_laid l d layout (suc i) left qs e (omega (arith, below)) h)

pub same_names : (l : Laid) (d : Fid) (layout : Layout) (next : List (List ℕ × Fid) → Asks) (other : Names → Plan) → (layout ≡ kept (layout_at l d)) × (is_dir (get l.tree.nodes d) ≡ true)
    → Matches l (next (all_names_at layout (names_of l.tree d) 0 (parts_of (laid layout)))) (other (names_of l.tree d)) → Matches l (AskNames d layout next) (AskAll d other)
same_names l d layout next other e m =
    record { same = (m.same.0, names_keys d layout layout.count (questions l (next (all_names_at layout (names_of l.tree d) 0 (parts_of (laid layout))))) ∙ ap (λ ks. AllKey d ∷ ks) m.same.1, names_laid l d layout 0 (parts_of (laid layout)) _ e (omega arith) m.same.2) }

few_names : (l : Laid) (told : List (List ℕ × Fid)) (names : Names) (a : Asks) (p : Plan) → nat_lt 32 (length told) ≡ nat_lt 32 (len names) → Matches l a p
    → Matches l (check (many_fault told) a) (plan_check (if nat_lt 32 (len names) then Some EFBIG else None) p)
few_names l told names a p e m = by_test (nat_lt 32 (length told)) (nat_lt 32 (len names)) e
  where
    by_test : (b c : Bool) → b ≡ c → Matches l (check (if b then Some EFBIG else None) a) (plan_check (if c then Some EFBIG else None) p)
    by_test true true e = record { same = (refl, refl, tt) }
    by_test false false e = m
    by_test true false e = cc
    by_test false true e = cc

ok_reply : (m : Migration) (told : List (List ℕ × Fid)) → (migrated m told).reply ≡ replies.Ok
unfolding migrated
ok_reply m told = refl

pub migrate_matches : (targets batch : ℕ) (l : Laid) (d : Fid) (c i : ℕ) → Matches l (asks targets batch (ops.Migrate d c i)) (plan targets (ops.Migrate d c i))
migrate_matches targets batch l d c i = same_directory l d _ _ (λ n g dir.
    same_check l (migrate_fault targets d c i) _ _ (same_names l d (kept (layout_at l d)) _ _ (refl, ap is_dir g ∙ dir)
    (few_names l _ (names_of l.tree d) _ _ (many_listed (kept (layout_at l d)) (names_of l.tree d)) (same_settle l _ replies.Ok (NextLayout d c i ∷ MoveNames d ∷ []) (ok_reply (record {
      targets = targets;
      batch = batch;
      directory = d;
      old = kept (layout_at l d);
      new = next_layout (kept (layout_at l d)) c i;
    }) _)))))
