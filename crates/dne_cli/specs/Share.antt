-- What of a tree stands on one target, and what each client was answered there last.
use Rattle.std.specs.Prelude.{◌≡◌, ◌==◌, ◌&&◌, nat_le, ℕ, zero, suc, Bool, false, List, [], ◌∷◌, ◌++◌, Option, Some, None, if◌then◌else◌}
use Rattle.std.specs.List.{filter}
use Rattle.std.specs.FinMap.{FinMap, entries, from_entries}
use Rattle.fid_space.specs.Places.{place_of}
use Rattle.tree_model.specs.declared.node.Node.{Node}
use Rattle.tree_model.specs.Tree.{Names, fid_cmp}
use Rattle.tree_model.specs.History.{Item, tree_of}
use Rattle.tree_model.specs.Participants.{home_of}
use Rattle.dne_cli.specs.Image.{Holds}

-- the nodes of a target, the names of the directories there, and the seats of the clients 0 to 63: what was
-- accepted there with the greatest number
pub record Share : Type 0 where
  pub nodes : FinMap fid_cmp Node
  pub entries : FinMap fid_cmp Names
  pub seats : List (Option Item)

abbrev pub is_at : ℕ → Option ℕ → Bool
is_at target None = false
is_at target (Some place) = place == target

abbrev pub greater : Option Item → Item → Option Item
greater None i = Some i
greater (Some j) i = if nat_le j.request.number i.request.number then Some i else Some j

-- the item of a client with the greatest number, among those whose home the target is
abbrev pub seat : ℕ → ℕ → ℕ → Option Item → List Item → Option Item
seat targets target client best [] = best
seat targets target client best (i ∷ is) =
    seat targets target client (if (i.request.client == client) && is_at target (home_of targets i.request.op) then greater best i else best) is

abbrev pub seats_below : ℕ → ℕ → List Item → ℕ → List (Option Item)
seats_below targets target history zero = []
seats_below targets target history (suc client) = seats_below targets target history client ++ seat targets target client None history ∷ []

-- each directory is plain: its entries stand where its FID lives
unfoldable pub share : ℕ → List Item → ℕ → Share
share targets history target = record {
  nodes = from_entries (filter (λ e. is_at target (place_of targets e.0)) (entries (tree_of targets history).nodes));
  entries = from_entries (filter (λ e. is_at target (place_of targets e.0)) (entries (tree_of targets history).entries));
  seats = seats_below targets target history 64;
}

-- a disk's bytes hold the share of a target
abbrev pub HoldsShare : ℕ → ℕ → List Item → List ℕ → Type 0
HoldsShare targets target history bytes = (items : List Item) × Holds bytes items × (share targets items target ≡ share targets history target)
