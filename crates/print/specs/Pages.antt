-- A text in pieces, printed page by page into a lent buffer: a page takes pieces as long as 64 bytes are left for one, and no piece
-- is longer. Assumes nothing.
use Rattle.std.specs.Prelude.{List, [], ◌∷◌, ◌++◌, ℕ, zero, suc, ◌+◌, ◌-◌, ltb, length, take, drop}
use Rattle.whole.specs.Tests.{if◌then◌otherwise◌}
use Rattle.frame.specs.Frame.{front}
use Rattle.print.specs.declared.Page.{Page}

-- pieces one after the other
unfoldable pub joined : List (List ℕ) → List ℕ
joined [] = []
joined (piece ∷ pieces) = piece ++ joined pieces

-- how many pieces a page takes, and its text
unfoldable pub fitting : List (List ℕ) → (room : ℕ) → ℕ
fitting [] room = 0
fitting (piece ∷ pieces) room = if ltb room 64 then 0 otherwise suc (fitting pieces (room - length piece))

unfoldable pub page_text : List (List ℕ) → (room : ℕ) → List ℕ
page_text pieces room = joined (take (fitting pieces room) pieces)

-- the page from piece `from` on: the piece that the next one begins with, and how many bytes this one has
abbrev pub page_from : (from : ℕ) → List (List ℕ) → (room : ℕ) → Page
page_from from pieces room = record { next = from + fitting (drop from pieces) room; size = length (page_text (drop from pieces) room) }

-- what the page leaves in the buffer
abbrev pub paged : (from : ℕ) → List (List ℕ) → (before : List ℕ) → List ℕ
paged from pieces before = front (page_text (drop from pieces) (length before)) before

-- k pages, each from where the one before it ended
unfoldable pub pages : (k from : ℕ) → List (List ℕ) → (room : ℕ) → List ℕ
pages zero from pieces room = []
pages (suc k) from pieces room = page_text (drop from pieces) room ++ pages k (page_from from pieces room).next pieces room
