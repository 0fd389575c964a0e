-- The rule of the table of Appendix D (01, "Typed items"): each row has a type of Appendix B or Table 6, rows of a
-- field adjoin, widths add up to the field's width, fields don't overlap. One test computes it over the whole table.
use Rattle.std.specs.Prelude.{ℕ, ◌+◌, ◌<◌, ◌≤◌, ◌≡◌, List, [], ◌∷◌, Bool, true, cond, ◌&&◌, get_or, take, drop, leb, eqb}
use Rattle.ftd.specs.Table.{word_kind, int_kind, string_kind, number_kind, float_kind, date_kind, last_listed, Row, row}
use Rattle.ftd.specs.Table.{table, total, rows_of}

-- ─── Where the rows of each field stand ───

-- First row, number of rows, and the field's width in bytes.
pub record Place : Type 0 where
  pub start : ℕ
  pub count : ℕ
  pub wide : ℕ

abbrev pub place : ℕ → ℕ → ℕ → Place
place s c w = record { start = s; count = c; wide = w }

-- By FID, which is at most 46: the rows of a field are found without a search.
unfoldable pub places : List Place
places =
    place 0 0 0  -- 0 is no FID
    ∷ place 0 8 822  -- 0x0001 BulletinField
    ∷ place 8 5 98  -- 0x0002 ClientField
    ∷ place 13 27 353  -- 0x0003 DepositField
    ∷ place 40 2 6  -- 0x0004 DisseminationstartField
    ∷ place 42 3 130  -- 0x0005 ErrorField
    ∷ place 49 2 101  -- 0x0006 ForceExitField
    ∷ place 51 26 201  -- 0x0007 InstrumentField
    ∷ place 77 2 11  -- 0x0008 InstrumentStatusField
    ∷ place 138 3 15  -- 0x0009 MarketStatusField
    ∷ place 125 6 29  -- 0x000A MarketMatchIncDataField
    ∷ place 141 6 71  -- 0x000B OrderActionField
    ∷ place 147 20 158  -- 0x000C OrderInsertField
    ∷ place 131 7 33  -- 0x000D MarketOrderDataField
    ∷ place 167 30 254  -- 0x000E OrderStatusField
    ∷ place 197 4 90  -- 0x000F ParticipantField
    ∷ place 201 37 163  -- 0x0010 PositionField
    ∷ place 238 36 155  -- 0x0011 PPositionField
    ∷ place 83 12 99  -- 0x0012 MarketMatchDataChgField
    ∷ place 95 30 252  -- 0x0013 MarketMatchDataField
    ∷ place 274 2 16  -- 0x0014 ReqQryClientField
    ∷ place 276 1 8  -- 0x0015 ReqQryDepositField
    ∷ place 277 2 20  -- 0x0016 ReqQryInstrumentField
    ∷ place 279 2 20  -- 0x0017 ReqQryInstrumentStatusField
    ∷ place 281 1 10  -- 0x0018 ReqQryMarketField
    ∷ place 285 1 10  -- 0x0019 ReqQryMarketStatusField
    ∷ place 286 6 62  -- 0x001A ReqQryOrderField
    ∷ place 283 2 11  -- 0x001B ReqQryMarketOrderDataField
    ∷ place 292 1 8  -- 0x001C ReqQryParticipantField
    ∷ place 293 3 26  -- 0x001D ReqQryPositionField
    ∷ place 296 2 18  -- 0x001E ReqQryPPositionField
    ∷ place 282 1 10  -- 0x001F ReqQryMarketMatchDataField
    ∷ place 298 8 78  -- 0x0020 ReqQryTradeField
    ∷ place 306 2 23  -- 0x0021 ReqQryUserField
    ∷ place 308 2 23  -- 0x0022 ReqQryUserLoginField
    ∷ place 310 9 120  -- 0x0023 ReqUserLoginField
    ∷ place 319 3 24  -- 0x0024 ReqUserLogoutField
    ∷ place 322 4 103  -- 0x0025 ReqUserPasswordUpdateField
    ∷ place 79 4 93  -- 0x0026 MarketField
    ∷ place 326 8 131  -- 0x0027 RspUserLoginField
    ∷ place 334 4 44  -- 0x0028 RspUserLogoutField
    ∷ place 338 3 63  -- 0x0029 RspUserPasswordUpdateField
    ∷ place 341 19 166  -- 0x002A TradeInsertSingleField
    ∷ place 360 6 46  -- 0x002B UserField
    ∷ place 366 13 186  -- 0x002C UserLoginField
    ∷ place 45 2 44  -- 0x002D ErrorTargetOrderField
    ∷ place 47 2 6  -- 0x002E ErrorTargetSequenceField
    ∷ []

abbrev pub rows_place : ℕ → Place
rows_place fid = get_or places fid (place 0 0 0)

-- Row i, counted from 0 over the whole table.
abbrev pub row_at : ℕ → Row
row_at i = get_or table i (row 0 0 0 0)

-- ─── The test ───

-- A row has a kind, and the width and decimals that are right for it. A number has at most 18 bytes.
abbrev pub right_form : Row → Bool
right_form r =
    cond (eqb r.kind word_kind) (eqb r.width 2 && eqb r.scale 0)
    (cond (eqb r.kind int_kind) (eqb r.width 4 && eqb r.scale 0)
    (cond (eqb r.kind string_kind) (leb 1 r.width && eqb r.scale 0)
    (cond (eqb r.kind number_kind) (leb 1 r.width && (leb r.width 18 && eqb r.scale 0))
    (cond (eqb r.kind float_kind) (leb 1 r.scale && (leb (r.scale + 2) r.width && leb r.width 18))
    (cond (eqb r.kind date_kind) (eqb r.width 8 && eqb r.scale 0)
    (leb r.kind last_listed && (eqb r.width 1 && eqb r.scale 0)))))))

-- ─── The rule ───

-- At row i: its type, and its place among its field's rows.
pub record RowRule (i : ℕ) (r : Row) : Type 0 where
  pub form : right_form r ≡ true
  pub from : (rows_place r.fid).start ≤ i
  pub to : i < (rows_place r.fid).start + (rows_place r.fid).count

-- At each FID, unknown ones too: its rows adjoin, their widths add up, and no other field's row stands among them.
pub record FieldRule (fid : ℕ) : Type 0 where
  pub inside : (rows_place fid).start + (rows_place fid).count ≤ 379
  pub rows : rows_of fid ≡ take (rows_place fid).count (drop (rows_place fid).start table)
  pub sum : total (rows_of fid) ≡ (rows_place fid).wide
  pub apart : (i : ℕ) → (rows_place fid).start ≤ i → i < (rows_place fid).start + (rows_place fid).count → (row_at i).fid ≡ fid

pub record TableRule : Type 0 where
  pub each : (i : ℕ) → i < 379 → RowRule i (row_at i)
  pub field : (fid : ℕ) → FieldRule fid
