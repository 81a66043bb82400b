-- Where the update records of a log stand.
use Rattle.std.specs.Prelude.{ℕ, List, [], ◌∷◌, length}
use Rattle.llog_store.specs.declared.place.Place.{Place}
use Rattle.llog_store.specs.Log.{Entry, record_size, start_of, entry_end}
use Rattle.llog_store.specs.Reading.{Found}

unfoldable pub founds_of : ℕ → List Entry → List Found
founds_of place [] = []
founds_of place (e ∷ es) = record { index = e.index; at = start_of place (record_size (length e.payload)); payload = e.payload } ∷ founds_of (entry_end place e) es

unfoldable pub places_of : ℕ → List Entry → List Place
places_of place [] = []
places_of place (e ∷ es) = record { index = e.index; at = start_of place (record_size (length e.payload)); length = length e.payload } ∷ places_of (entry_end place e) es
