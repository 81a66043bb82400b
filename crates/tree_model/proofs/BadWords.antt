-- Words that can't stand, before and behind others; and why an operation's own words never are among them.
use Rattle.std.proofs.Common.{◌≡◌, ◌≢◌, ⊎_elim, inl, inr, ℕ, true, Some, None, Result, Ok, Err, IsErr, IfErr, ◌==◌, List, [], ◌∷◌, ◌++◌, length, refl, sym, ap, ◌∙◌, subst, arith}
use Rattle.std.specs.List.{AllByRecursion}
use Rattle.std.specs.Result.{IsErrAnd}
use Rattle.std.specs.Cmp.Lexicographic.{pointwise}
use Rattle.std.specs.Fmt.{decimal}
use Rattle.std.proofs.lemmas.Bool.{false≢true}
use Rattle.fid_space.specs.FidText.{fid_text}
use Rattle.fid_space.specs.Places.{has_place}
use Rattle.fid_space.proofs.FidTexts.{one_fid}
use Rattle.tree_model.specs.Names.{name_word}
use Rattle.fid_space.specs.HexText.{hex_text}
use Rattle.tree_model.specs.OpText.{IsOp, op_words}
use Rattle.tree_model.specs.OpReading.{Field, FidField, NameField, HexField, NumberField, u32_field, IsGood, IsBad, IsFirstBad, IsBadForm, IsKindFault, IsOpFault, kind_word, forms}
use Rattle.tree_model.specs.declared.op.Op.{Op}
use Rattle.tree_model.specs.declared.op.Op.TheVariants as ops
use Rattle.tree_model.specs.declared.op.OpKind.{OpKind}
use Rattle.tree_model.specs.declared.op.OpKind.TheVariants as kinds
use Rattle.tree_model.specs.declared.op.OpFault.{OpFault}
use Rattle.tree_model.specs.declared.op.OpFault.TheVariants as faults
use Rattle.tree_model.proofs.Spellings.{all_same}

-- each word can stand in its place
abbrev pub AllGood : ℕ → List Field → List (List ℕ) → Type 0
AllGood targets [] [] = Unit {0}
AllGood targets [] (w ∷ ws) = ⊥
AllGood targets (f ∷ fs) [] = ⊥
AllGood targets (f ∷ fs) (w ∷ ws) = IsGood targets f w × AllGood targets fs ws

pub bad_more : (targets : ℕ) (fs gs : List Field) (ws vs : List (List ℕ)) (d : OpFault) → IsFirstBad targets fs ws d → IsFirstBad targets (fs ++ gs) (ws ++ vs) d
bad_more targets [] gs ws vs d h = absurd h
bad_more targets (f ∷ fs) gs [] vs d h = absurd h
bad_more targets (f ∷ fs) gs (w ∷ ws) vs d h = ⊎_elim (λ b. inl b) (λ b. inr (b.0, bad_more targets fs gs ws vs d b.1)) h

pub bad_next : (targets : ℕ) (fs gs : List Field) (ws vs : List (List ℕ)) (d : OpFault) → AllGood targets fs ws → IsFirstBad targets gs vs d → IsFirstBad targets (fs ++ gs) (ws ++ vs) d
bad_next targets [] gs [] vs d good h = h
bad_next targets [] gs (w ∷ ws) vs d good h = absurd good
bad_next targets (f ∷ fs) gs [] vs d good h = absurd good
bad_next targets (f ∷ fs) gs (w ∷ ws) vs d good h = inr (good.0, bad_next targets fs gs ws vs d good.1 h)

-- what holds of an error that is handed on
pub err_gives : {X : Type 0} (r : Result X OpFault) (e : OpFault) (P : OpFault → Type 0) → IsErrAnd r (λ x. x ≡ e) → P e → IfErr r P
err_gives (Ok x) e P h p = tt
err_gives (Err x) e P h p = subst P (sym h) p

-- no error but want of memory
pub never : {X : Type 0} (r : Result X OpFault) (Q : OpFault → Type 0) → IsErr r → r ≢ Err faults.Memory → IfErr r Q → ((d : OpFault) → d ≢ faults.Memory → Q d → ⊥) → ⊥
never (Ok x) Q failed known h stop = false≢true failed
never (Err d) Q failed known h stop = stop d (λ e. known (ap Err e)) h

-- a word that can stand isn't one that can't
not_bad : (targets : ℕ) (f : Field) (w : List ℕ) (d : OpFault) → d ≢ faults.Memory → IsGood targets f w → IsBad targets f w d → ⊥
not_bad targets f w faults.Memory m g b = m refl
not_bad targets FidField w faults.BadFid m g b = b g.0 g.1.0 g.2
not_bad targets FidField w faults.NoHome m g b =
    let same = one_fid b.0 g.0 b.1 g.1.0 (sym b.3 ∙ g.2) in
    false≢true (sym b.2 ∙ ap (λ f. has_place targets f) same ∙ g.1.1)
not_bad targets NameField w faults.BadName m g b = b g.0 g.1 g.2
not_bad targets HexField w faults.BadHex m g b = b g.0 g.1 g.2
not_bad targets (NumberField most) w faults.BadNumber m g b = b g.0 g.1 g.2
not_bad targets FidField w faults.BadOperation m g b = b
not_bad targets FidField w faults.BadWords m g b = b
not_bad targets FidField w faults.BadNumber m g b = b
not_bad targets FidField w faults.BadName m g b = b
not_bad targets FidField w faults.BadHex m g b = b
not_bad targets NameField w faults.BadOperation m g b = b
not_bad targets NameField w faults.BadWords m g b = b
not_bad targets NameField w faults.BadNumber m g b = b
not_bad targets NameField w faults.BadFid m g b = b
not_bad targets NameField w faults.NoHome m g b = b
not_bad targets NameField w faults.BadHex m g b = b
not_bad targets HexField w faults.BadOperation m g b = b
not_bad targets HexField w faults.BadWords m g b = b
not_bad targets HexField w faults.BadNumber m g b = b
not_bad targets HexField w faults.BadFid m g b = b
not_bad targets HexField w faults.NoHome m g b = b
not_bad targets HexField w faults.BadName m g b = b
not_bad targets (NumberField most) w faults.BadOperation m g b = b
not_bad targets (NumberField most) w faults.BadWords m g b = b
not_bad targets (NumberField most) w faults.BadFid m g b = b
not_bad targets (NumberField most) w faults.NoHome m g b = b
not_bad targets (NumberField most) w faults.BadName m g b = b
not_bad targets (NumberField most) w faults.BadHex m g b = b

none_bad : (targets : ℕ) (fs : List Field) (ws : List (List ℕ)) (d : OpFault) → d ≢ faults.Memory → AllGood targets fs ws → IsFirstBad targets fs ws d → ⊥
none_bad targets [] ws d m g b = b
none_bad targets (f ∷ fs) [] d m g b = b
none_bad targets (f ∷ fs) (w ∷ ws) d m g b = ⊎_elim (λ h. not_bad targets f w d m g.0 h) (λ h. none_bad targets fs ws d m g.1 h.1) b

as_many : (targets : ℕ) (fs : List Field) (ws : List (List ℕ)) → AllGood targets fs ws → length fs ≡ length ws
as_many targets [] [] g = refl
as_many targets [] (w ∷ ws) g = absurd g
as_many targets (f ∷ fs) [] g = absurd g
as_many targets (f ∷ fs) (w ∷ ws) g = let e = as_many targets fs ws g.1 in omega (arith, e)

-- words that fit the only form of their operation
one_form : (targets : ℕ) (kind : OpKind) (fs : List Field) (ws : List (List ℕ)) (d : OpFault) → forms kind ≡ fs ∷ [] → d ≢ faults.Memory → AllGood targets fs ws → IsKindFault targets kind ws d → ⊥
one_form targets kind fs ws d is m g h =
    ⊎_elim
    (λ b. ⊎_elim (λ one. none_bad targets fs ws d m g one.1) (λ none. none) (subst (λ l. IsBadForm targets l ws d) is b))
    (λ b. (subst (λ l. AllByRecursion (λ gs. length gs ≢ length ws) l) is b.1).0 (as_many targets fs ws g)) h

kinds_apart : (a b : OpKind) → pointwise ◌==◌ (kind_word a) (kind_word b) ≡ true → a ≡ b
kinds_apart kinds.Create kinds.Create e = refl
kinds_apart kinds.Mkdir kinds.Mkdir e = refl
kinds_apart kinds.Link kinds.Link e = refl
kinds_apart kinds.Unlink kinds.Unlink e = refl
kinds_apart kinds.Rmdir kinds.Rmdir e = refl
kinds_apart kinds.Rename kinds.Rename e = refl
kinds_apart kinds.SetAttr kinds.SetAttr e = refl
kinds_apart kinds.SetXattr kinds.SetXattr e = refl
kinds_apart kinds.DelXattr kinds.DelXattr e = refl
kinds_apart kinds.Migrate kinds.Migrate e = refl
kinds_apart kinds.Lookup kinds.Lookup e = refl
kinds_apart kinds.GetAttr kinds.GetAttr e = refl
kinds_apart kinds.GetXattr kinds.GetXattr e = refl
kinds_apart a b e = absurd (false≢true e)

one_kind : (a b : OpKind) → kind_word a ≡ kind_word b → a ≡ b
one_kind a b e = kinds_apart a b (subst (λ l. pointwise ◌==◌ (kind_word a) l ≡ true) e (all_same (kind_word a)))

-- the fault of words whose operation is known
known : (targets : ℕ) (kind : OpKind) (ws : List (List ℕ)) (d : OpFault) → IsOpFault targets (kind_word kind ∷ ws) d → IsKindFault targets kind ws d
known targets kind ws d h =
    ⊎_elim (λ b. absurd (b.1 kind refl)) (λ b. subst (λ k. IsKindFault targets k ws d) (sym (one_kind kind b.0 b.1)) b.2) h

-- an operation's own words have no fault
pub no_fault : (targets : ℕ) (op : Op) (d : OpFault) → IsOp targets op → d ≢ faults.Memory → IsOpFault targets (op_words op) d → ⊥
no_fault targets (ops.Create p x f) d h m b =
    let good : AllGood targets (FidField ∷ NameField ∷ FidField ∷ []) (fid_text p ∷ name_word x ∷ fid_text f ∷ []) = ((p, h.0, refl), ((x, h.1, refl), ((f, h.2, refl), tt))) in
    one_form targets kinds.Create (FidField ∷ NameField ∷ FidField ∷ []) (fid_text p ∷ name_word x ∷ fid_text f ∷ []) d refl m good (known targets kinds.Create (fid_text p ∷ name_word x ∷ fid_text f ∷ []) d b)
no_fault targets (ops.Link p x f) d h m b =
    let good : AllGood targets (FidField ∷ NameField ∷ FidField ∷ []) (fid_text p ∷ name_word x ∷ fid_text f ∷ []) = ((p, h.0, refl), ((x, h.1, refl), ((f, h.2, refl), tt))) in
    one_form targets kinds.Link (FidField ∷ NameField ∷ FidField ∷ []) (fid_text p ∷ name_word x ∷ fid_text f ∷ []) d refl m good (known targets kinds.Link (fid_text p ∷ name_word x ∷ fid_text f ∷ []) d b)
no_fault targets (ops.Unlink p x) d h m b =
    let good : AllGood targets (FidField ∷ NameField ∷ []) (fid_text p ∷ name_word x ∷ []) = ((p, h.0, refl), ((x, h.1, refl), tt)) in
    one_form targets kinds.Unlink (FidField ∷ NameField ∷ []) (fid_text p ∷ name_word x ∷ []) d refl m good (known targets kinds.Unlink (fid_text p ∷ name_word x ∷ []) d b)
no_fault targets (ops.Rmdir p x) d h m b =
    let good : AllGood targets (FidField ∷ NameField ∷ []) (fid_text p ∷ name_word x ∷ []) = ((p, h.0, refl), ((x, h.1, refl), tt)) in
    one_form targets kinds.Rmdir (FidField ∷ NameField ∷ []) (fid_text p ∷ name_word x ∷ []) d refl m good (known targets kinds.Rmdir (fid_text p ∷ name_word x ∷ []) d b)
no_fault targets (ops.Rename p x q y) d h m b =
    let good : AllGood targets (FidField ∷ NameField ∷ FidField ∷ NameField ∷ []) (fid_text p ∷ name_word x ∷ fid_text q ∷ name_word y ∷ []) = ((p, h.0, refl), ((x, h.1, refl), ((q, h.2, refl), ((y, h.3, refl), tt)))) in
    one_form targets kinds.Rename (FidField ∷ NameField ∷ FidField ∷ NameField ∷ []) (fid_text p ∷ name_word x ∷ fid_text q ∷ name_word y ∷ []) d refl m good (known targets kinds.Rename (fid_text p ∷ name_word x ∷ fid_text q ∷ name_word y ∷ []) d b)
no_fault targets (ops.SetAttr f k u g) d h m b =
    let good : AllGood targets (FidField ∷ NumberField 4095 ∷ u32_field ∷ u32_field ∷ []) (fid_text f ∷ decimal k ∷ decimal u ∷ decimal g ∷ []) = ((f, h.0, refl), ((k, h.1, refl), ((u, omega (arith, h.2), refl), ((g, omega (arith, h.3), refl), tt)))) in
    one_form targets kinds.SetAttr (FidField ∷ NumberField 4095 ∷ u32_field ∷ u32_field ∷ []) (fid_text f ∷ decimal k ∷ decimal u ∷ decimal g ∷ []) d refl m good (known targets kinds.SetAttr (fid_text f ∷ decimal k ∷ decimal u ∷ decimal g ∷ []) d b)
no_fault targets (ops.SetXattr f x v) d h m b =
    let good : AllGood targets (FidField ∷ NameField ∷ HexField ∷ []) (fid_text f ∷ name_word x ∷ hex_text v ∷ []) = ((f, h.0, refl), ((x, h.1, refl), ((v, h.2, refl), tt))) in
    one_form targets kinds.SetXattr (FidField ∷ NameField ∷ HexField ∷ []) (fid_text f ∷ name_word x ∷ hex_text v ∷ []) d refl m good (known targets kinds.SetXattr (fid_text f ∷ name_word x ∷ hex_text v ∷ []) d b)
no_fault targets (ops.DelXattr f x) d h m b =
    let good : AllGood targets (FidField ∷ NameField ∷ []) (fid_text f ∷ name_word x ∷ []) = ((f, h.0, refl), ((x, h.1, refl), tt)) in
    one_form targets kinds.DelXattr (FidField ∷ NameField ∷ []) (fid_text f ∷ name_word x ∷ []) d refl m good (known targets kinds.DelXattr (fid_text f ∷ name_word x ∷ []) d b)
no_fault targets (ops.Migrate f c i) d h m b =
    let good : AllGood targets (FidField ∷ u32_field ∷ u32_field ∷ []) (fid_text f ∷ decimal c ∷ decimal i ∷ []) = ((f, h.0, refl), ((c, omega (arith, h.1), refl), ((i, omega (arith, h.2), refl), tt))) in
    one_form targets kinds.Migrate (FidField ∷ u32_field ∷ u32_field ∷ []) (fid_text f ∷ decimal c ∷ decimal i ∷ []) d refl m good (known targets kinds.Migrate (fid_text f ∷ decimal c ∷ decimal i ∷ []) d b)
no_fault targets (ops.Lookup p x) d h m b =
    let good : AllGood targets (FidField ∷ NameField ∷ []) (fid_text p ∷ name_word x ∷ []) = ((p, h.0, refl), ((x, h.1, refl), tt)) in
    one_form targets kinds.Lookup (FidField ∷ NameField ∷ []) (fid_text p ∷ name_word x ∷ []) d refl m good (known targets kinds.Lookup (fid_text p ∷ name_word x ∷ []) d b)
no_fault targets (ops.GetAttr f) d h m b =
    let good : AllGood targets (FidField ∷ []) (fid_text f ∷ []) = ((f, h, refl), tt) in
    one_form targets kinds.GetAttr (FidField ∷ []) (fid_text f ∷ []) d refl m good (known targets kinds.GetAttr (fid_text f ∷ []) d b)
no_fault targets (ops.GetXattr f x) d h m b =
    let good : AllGood targets (FidField ∷ NameField ∷ []) (fid_text f ∷ name_word x ∷ []) = ((f, h.0, refl), ((x, h.1, refl), tt)) in
    one_form targets kinds.GetXattr (FidField ∷ NameField ∷ []) (fid_text f ∷ name_word x ∷ []) d refl m good (known targets kinds.GetXattr (fid_text f ∷ name_word x ∷ []) d b)
no_fault targets (ops.Mkdir p x f None) d h m b =
    let good : AllGood targets (FidField ∷ NameField ∷ FidField ∷ []) (fid_text p ∷ name_word x ∷ fid_text f ∷ []) = ((p, h.0, refl), ((x, h.1, refl), ((f, h.2, refl), tt))) in
    ⊎_elim
    (λ k. ⊎_elim (λ one. none_bad targets (FidField ∷ NameField ∷ FidField ∷ []) (fid_text p ∷ name_word x ∷ fid_text f ∷ []) d m good one.1)
    (λ more. ⊎_elim (λ two. absurd (omega (arith, two.0))) (λ none. none) more) k)
    (λ k. k.1.0 refl) (known targets kinds.Mkdir (fid_text p ∷ name_word x ∷ fid_text f ∷ []) d b)
no_fault targets (ops.Mkdir p x f (Some s)) d h m b =
    let good : AllGood targets (FidField ∷ NameField ∷ FidField ∷ u32_field ∷ u32_field ∷ []) (fid_text p ∷ name_word x ∷ fid_text f ∷ decimal s.0 ∷ decimal s.1 ∷ []) =
    ((p, h.0, refl), ((x, h.1, refl), ((f, h.2, refl), ((s.0, omega (arith, h.3), refl), ((s.1, omega (arith, h.3), refl), tt))))) in
    ⊎_elim
    (λ k. ⊎_elim (λ one. absurd (omega (arith, one.0)))
    (λ more. ⊎_elim (λ two. none_bad targets (FidField ∷ NameField ∷ FidField ∷ u32_field ∷ u32_field ∷ []) (fid_text p ∷ name_word x ∷ fid_text f ∷ decimal s.0 ∷ decimal s.1 ∷ []) d m
    good two.1) (λ none. none) more) k)
    (λ k. k.1.1.0 refl) (known targets kinds.Mkdir (fid_text p ∷ name_word x ∷ fid_text f ∷ decimal s.0 ∷ decimal s.1 ∷ []) d b)
