-- A line that is written in three pieces.
use Rattle.std.proofs.Common.{◌≡◌, ℕ, List, ◌++◌, ap, ◌∙◌, append_assoc}

pub three_pieces : (head middle end one two three : List ℕ) → one ≡ head → two ≡ one ++ middle → three ≡ two ++ end → three ≡ head ++ (middle ++ end)
three_pieces head middle end one two three a b c = c ∙ ap (λ l. l ++ end) (b ∙ ap (λ l. l ++ middle) a) ∙ append_assoc head middle end
