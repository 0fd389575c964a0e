-- The state of the box (02, No. 3): the receiving end towards above with the reserves of its series (02, No. 11), the one
-- day below, and what each of the 16 seats has of it. The code has the seats apart, as numbers that are lent: seat by
-- seat, series by series in the opening's order, three numbers a place: logged in (not 0), next, piece.
use Rattle.std.specs.Prelude.{ℕ, zero, suc, ◌+◌, ◌*◌, List, [], ◌∷◌, Bool, not, cond, get_or, set, replicate, eqb}
use Rattle.flow.specs.declared.sender.Day.{Day}
use Rattle.flow.specs.declared.sender.Place.{Place}
use Rattle.flow.specs.declared.sender.Seat.{Seat}
use Rattle.flow.specs.declared.receiver.Receiver.{Receiver}
use Rattle.relay.specs.declared.relay.Relay.{Relay}

pub record Box : Type 0 where
  pub receiver : Receiver
  pub reserves : List ℕ
  pub day : Day
  pub seats : List Seat

-- ─── The numbers that are lent ───

abbrev pub most_seats : ℕ
most_seats = 16

-- So many numbers a place, a seat, and in all.
abbrev pub place_width : ℕ
place_width = 3

abbrev pub seat_width : ℕ
seat_width = 24

abbrev pub all_numbers : ℕ
all_numbers = 384

-- Where the place of a seat in the series at place j of the day stands.
abbrev pub place_start : ℕ → ℕ → ℕ
place_start i j = seat_width * i + place_width * j

-- ─── Read ───

abbrev pub place_for : List ℕ → ℕ → Place
place_for ns n = record { login = not (eqb (get_or ns n 0) 0); next = get_or ns (n + 1) 0; piece = get_or ns (n + 2) 0 }

-- So many places from a number on; so many seats.
abbrev pub places_from : List ℕ → ℕ → ℕ → List Place
places_from ns zero n = []
places_from ns (suc k) n = place_for ns n ∷ places_from ns k (n + place_width)

abbrev pub seat_for : List ℕ → ℕ → Seat
seat_for ns n = record { places = places_from ns 8 n }

abbrev pub seats_from : List ℕ → ℕ → ℕ → List Seat
seats_from ns zero n = []
seats_from ns (suc k) n = seat_for ns n ∷ seats_from ns k (n + seat_width)

unfoldable pub seats_for : List ℕ → List Seat
seats_for ns = seats_from ns most_seats 0

-- The box that the code's state and the numbers lent are.
abbrev pub box_for : Relay → List ℕ → Box
box_for b ns = record { receiver = b.receiver; reserves = b.reserves; day = b.day; seats = seats_for ns }

-- ─── Written ───

abbrev pub flag_of : Bool → ℕ
flag_of b = cond b 1 0

-- Three numbers are set, every other one stays.
abbrev pub place_set : List ℕ → ℕ → Place → List ℕ
place_set ns n p = set (set (set ns n (flag_of p.login)) (n + 1) p.next) (n + 2) p.piece

-- One place of a seat is written.
abbrev pub place_written : List ℕ → ℕ → ℕ → Place → List ℕ
place_written ns i j p = place_set ns (place_start i j) p

-- Nobody is logged in.
abbrev pub no_numbers : List ℕ
no_numbers = replicate all_numbers 0
