-- The entries of one part further, and where a question stops.
use Rattle.std.proofs.Common.{◌≡◌, ℕ, zero, suc, List, [], ◌++◌, Result, Ok, Err, refl, sym, ap, subst, ◌∙◌, append_assoc, append-nil}
use Rattle.fid_space.specs.declared.fid.Fid.{Fid}
use Rattle.striped_dir.specs.declared.layout.Layout.{Layout}
use Rattle.plan_base.specs.declared.question.Stop.{Stop}
use Rattle.plan_base.specs.Stops.{◌>>=◌, Halts}
use Rattle.plan_base.specs.Listed.{Entry}
use Rattle.plan_base.specs.Told.{Told, names_told}
use Rattle.plan_base.specs.Asks.{names_from}
use Rattle.plan_base.proofs.Empties.{stopped}

names_on : (t : Told) (d : Fid) (l : Layout) (i n k : ℕ) → n ≡ suc k
    → names_from t d l i n ≡ (names_told t d l i >>= (λ es. names_from t d l (suc i) k >>= (λ more. Ok (es ++ more))))
unfolding names_from
names_on t d l i n k e = ap (λ m. names_from t d l i m) e

joined : (r : Result (List Entry) Stop) (bs es : List Entry) → ((r >>= (λ more. Ok (es ++ more))) >>= (λ more. Ok (bs ++ more))) ≡ (r >>= (λ more. Ok ((bs ++ es) ++ more)))
joined (Ok more) bs es = ap Ok (sym (append_assoc bs es more))
joined (Err e) bs es = refl

pub part_more : (t : Told) (d : Fid) (l : Layout) (i j n k : ℕ) (bs es : List Entry) → n ≡ suc k → j ≡ suc i → names_told t d l i ≡ Ok es
    → (names_from t d l j k >>= (λ more. Ok ((bs ++ es) ++ more))) ≡ (names_from t d l i n >>= (λ more. Ok (bs ++ more)))
part_more t d l i j n k bs es e f g =
    ap (λ m. names_from t d l m k >>= (λ more. Ok ((bs ++ es) ++ more))) f
    ∙ sym (ap (λ x. x >>= (λ more. Ok (bs ++ more))) (names_on t d l i n k e ∙ ap (λ r. r >>= (λ es. names_from t d l (suc i) k >>= (λ more. Ok (es ++ more)))) g)
    ∙ joined (names_from t d l (suc i) k) bs es)

pub part_stops : (t : Told) (d : Fid) (l : Layout) (i n k : ℕ) (bs : List Entry) (e : Stop) → n ≡ suc k → Halts e (names_told t d l i) → Halts e (names_from t d l i n >>= (λ more. Ok (bs ++ more)))
part_stops t d l i n k bs e f h =
    stopped e (names_from t d l i n) (λ more. Ok (bs ++ more))
    (subst (Halts e) (sym (names_on t d l i n k f)) (stopped e (names_told t d l i) (λ es. names_from t d l (suc i) k >>= (λ more. Ok (es ++ more))) h))

pub parts_ended : (t : Told) (d : Fid) (l : Layout) (i n : ℕ) (bs : List Entry) → n ≡ 0 → (names_from t d l i n >>= (λ more. Ok (bs ++ more))) ≡ Ok bs
unfolding names_from
parts_ended t d l i n bs e = ap (λ m. names_from t d l i m >>= (λ more. Ok (bs ++ more))) e ∙ ap Ok (append-nil bs)
