-- Make-up (01, "Typed items", row 10): how often each field occurs in a message, by Appendix E.
pub mod Helpers
pub mod Rule
use Rattle.std.specs.Prelude.{ℕ, List, [], ◌∷◌, map, Bool, true, cond, ◌&&◌, ◌||◌, get_or, leb, eqb}
use Rattle.ftd.specs.Fields.{count_of}
use Rattle.ftd.specs.declared.composition.Direction.{Direction}
use Rattle.ftd.specs.declared.composition.Direction.TheVariants.{Up, Down}

-- ─── Appendix E ───

-- A field that the paper lists for a message (TID and direction), with its least and most count; 0 as the most stands
-- for "任意", unlimited. The paper prints the most before the least.
pub record CompositionLine : Type 0 where
  pub tid : ℕ
  pub direction : ℕ
  pub fid : ℕ
  pub least : ℕ
  pub most : ℕ

-- Up: sent by the member; down: sent by the exchange (4.5.1, Table 7).
abbrev pub direction_of : Direction → ℕ
direction_of Up = 0
direction_of Down = 1

abbrev pub listed : ℕ → Direction → ℕ → ℕ → ℕ → CompositionLine
listed tid d fid least most = record { tid = tid; direction = direction_of d; fid = fid; least = least; most = most }

unfoldable pub appendix_e : List CompositionLine
appendix_e =
    -- Error, TID 0x0001, down
    listed 0x0001 Down 0x0005 1 1  -- ErrorField
    ∷ listed 0x0001 Down 0x002E 0 1  -- ErrorTargetSequenceField
    ∷ listed 0x0001 Down 0x002D 0 1  -- ErrorTargetOrderField
    -- ForceExit, TID 0x1005, down
    ∷ listed 0x1005 Down 0x0006 1 1  -- ForceExitField
    -- InstrumentChangeNotify, TID 0x2007, down
    ∷ listed 0x2007 Down 0x0007 1 1  -- InstrumentField
    ∷ listed 0x2007 Down 0x0005 0 1  -- ErrorField
    -- InstrumentStatusChangeNotify, TID 0x2006, down
    ∷ listed 0x2006 Down 0x0008 1 1  -- InstrumentStatusField
    ∷ listed 0x2006 Down 0x0005 0 1  -- ErrorField
    -- MarketBulletin, TID 0x2003, down
    ∷ listed 0x2003 Down 0x0001 1 1  -- BulletinField
    -- MarketMatchData, TID 0x2004, down
    ∷ listed 0x2004 Down 0x0013 0 0  -- MarketMatchDataField
    ∷ listed 0x2004 Down 0x0012 0 0  -- MarketMatchDataChgField
    -- MarketMatchIncData, TID 0x2002, down
    ∷ listed 0x2002 Down 0x000A 1 0  -- MarketMatchIncDataField
    ∷ listed 0x2002 Down 0x0005 0 1  -- ErrorField
    -- MarketOrderIncData, TID 0x2001, down
    ∷ listed 0x2001 Down 0x000D 1 0  -- MarketOrderDataField
    ∷ listed 0x2001 Down 0x0005 0 1  -- ErrorField
    -- MarketStatusChangeNotify, TID 0x2005, down
    ∷ listed 0x2005 Down 0x0009 1 1  -- MarketStatusField
    ∷ listed 0x2005 Down 0x0005 0 1  -- ErrorField
    -- OrderConfirmation, TID 0x1003, down
    ∷ listed 0x1003 Down 0x000E 1 1  -- OrderStatusField
    ∷ listed 0x1003 Down 0x0005 0 1  -- ErrorField
    -- ParticipantBulletin, TID 0x1002, down
    ∷ listed 0x1002 Down 0x0001 1 1  -- BulletinField
    -- ReqOrderAction, TID 0x0004, up
    ∷ listed 0x0004 Up 0x000B 1 1  -- OrderActionField
    -- ReqOrderInsert, TID 0x0003, up
    ∷ listed 0x0003 Up 0x000C 1 1  -- OrderInsertField
    -- ReqQryClient, TID 0x000C, up
    ∷ listed 0x000C Up 0x0014 1 1  -- ReqQryClientField
    -- ReqQryDeposit, TID 0x0008, up
    ∷ listed 0x0008 Up 0x0015 1 1  -- ReqQryDepositField
    -- ReqQryInstrument, TID 0x0005, up
    ∷ listed 0x0005 Up 0x0016 1 1  -- ReqQryInstrumentField
    -- ReqQryInstrumentStatus, TID 0x000E, up
    ∷ listed 0x000E Up 0x0017 1 1  -- ReqQryInstrumentStatusField
    -- ReqQryMarket, TID 0x000B, up
    ∷ listed 0x000B Up 0x0018 1 1  -- ReqQryMarketField
    -- ReqQryMarketMatchData, TID 0x0002, up
    ∷ listed 0x0002 Up 0x001F 1 1  -- ReqQryMarketMatchDataField
    -- ReqQryMarketOrderData, TID 0x0012, up
    ∷ listed 0x0012 Up 0x001B 1 1  -- ReqQryMarketOrderDataField
    -- ReqQryMarketStatus, TID 0x000D, up
    ∷ listed 0x000D Up 0x0019 1 1  -- ReqQryMarketStatusField
    -- ReqQryOrder, TID 0x0006, up
    ∷ listed 0x0006 Up 0x001A 1 1  -- ReqQryOrderField
    -- ReqQryParticipant, TID 0x0013, up
    ∷ listed 0x0013 Up 0x001C 1 1  -- ReqQryParticipantField
    -- ReqQryPosition, TID 0x000A, up
    ∷ listed 0x000A Up 0x001D 1 1  -- ReqQryPositionField
    -- ReqQryPPosition, TID 0x0009, up
    ∷ listed 0x0009 Up 0x001E 1 1  -- ReqQryPPositionField
    -- ReqQryTrade, TID 0x0007, up
    ∷ listed 0x0007 Up 0x0020 1 1  -- ReqQryTradeField
    -- ReqQryUser, TID 0x0014, up
    ∷ listed 0x0014 Up 0x0021 1 1  -- ReqQryUserField
    -- ReqQryUserLogin, TID 0x0015, up
    ∷ listed 0x0015 Up 0x0022 1 1  -- ReqQryUserLoginField
    -- ReqUserLogin, TID 0x0016, up
    ∷ listed 0x0016 Up 0x0023 1 1  -- ReqUserLoginField
    ∷ listed 0x0016 Up 0x0004 0 1  -- DisseminationstartField
    -- ReqUserLogout, TID 0x0017, up
    ∷ listed 0x0017 Up 0x0024 1 1  -- ReqUserLogoutField
    -- ReqUserPasswordUpdate, TID 0x0018, up
    ∷ listed 0x0018 Up 0x0025 1 1  -- ReqUserPasswordUpdateField
    -- RspOrderAction, TID 0x0004, down
    ∷ listed 0x0004 Down 0x000B 1 1  -- OrderActionField
    ∷ listed 0x0004 Down 0x0005 0 1  -- ErrorField
    -- RspOrderInsert, TID 0x0003, down
    ∷ listed 0x0003 Down 0x000C 1 1  -- OrderInsertField
    ∷ listed 0x0003 Down 0x0005 0 1  -- ErrorField
    -- RspQryClient, TID 0x000C, down
    ∷ listed 0x000C Down 0x0002 1 0  -- ClientField
    ∷ listed 0x000C Down 0x0005 0 1  -- ErrorField
    -- RspQryDeposit, TID 0x0008, down
    ∷ listed 0x0008 Down 0x0003 1 0  -- DepositField
    ∷ listed 0x0008 Down 0x0005 0 1  -- ErrorField
    -- RspQryInstrument, TID 0x0005, down
    ∷ listed 0x0005 Down 0x0007 1 0  -- InstrumentField
    ∷ listed 0x0005 Down 0x0005 0 1  -- ErrorField
    -- RspQryInstrumentStatus, TID 0x000E, down
    ∷ listed 0x000E Down 0x0008 1 0  -- InstrumentStatusField
    ∷ listed 0x000E Down 0x0005 0 1  -- ErrorField
    -- RspQryMarket, TID 0x000B, down
    ∷ listed 0x000B Down 0x0026 1 0  -- MarketField
    ∷ listed 0x000B Down 0x0005 0 1  -- ErrorField
    -- RspQryMarketMatchData, TID 0x0002, down
    ∷ listed 0x0002 Down 0x0013 1 0  -- MarketMatchDataField
    ∷ listed 0x0002 Down 0x0005 0 1  -- ErrorField
    -- RspQryMarketOrderData, TID 0x0012, down
    ∷ listed 0x0012 Down 0x000D 1 0  -- MarketOrderDataField
    ∷ listed 0x0012 Down 0x0005 0 1  -- ErrorField
    -- RspQryMarketStatus, TID 0x000D, down
    ∷ listed 0x000D Down 0x0009 1 0  -- MarketStatusField
    ∷ listed 0x000D Down 0x0005 0 1  -- ErrorField
    -- RspQryOrder, TID 0x0006, down
    ∷ listed 0x0006 Down 0x000E 1 0  -- OrderStatusField
    ∷ listed 0x0006 Down 0x0005 0 1  -- ErrorField
    -- RspQryParticipant, TID 0x0013, down
    ∷ listed 0x0013 Down 0x000F 1 0  -- ParticipantField
    ∷ listed 0x0013 Down 0x0005 0 1  -- ErrorField
    -- RspQryPosition, TID 0x000A, down
    ∷ listed 0x000A Down 0x0010 1 0  -- PositionField
    ∷ listed 0x000A Down 0x0005 0 1  -- ErrorField
    -- RspQryPPosition, TID 0x0009, down
    ∷ listed 0x0009 Down 0x0011 1 0  -- PPositionField
    ∷ listed 0x0009 Down 0x0005 0 1  -- ErrorField
    -- RspQryTrade, TID 0x0007, down
    ∷ listed 0x0007 Down 0x002A 1 0  -- TradeInsertSingleField
    ∷ listed 0x0007 Down 0x0005 0 1  -- ErrorField
    -- RspQryUser, TID 0x0014, down
    ∷ listed 0x0014 Down 0x002B 1 0  -- UserField
    ∷ listed 0x0014 Down 0x0005 0 1  -- ErrorField
    -- RspQryUserLogin, TID 0x0015, down
    ∷ listed 0x0015 Down 0x002C 1 0  -- UserLoginField
    ∷ listed 0x0015 Down 0x0005 0 1  -- ErrorField
    -- RspUserLogin, TID 0x0016, down
    ∷ listed 0x0016 Down 0x0027 1 1  -- RspUserLoginField
    ∷ listed 0x0016 Down 0x0005 0 1  -- ErrorField
    -- RspUserLogout, TID 0x0017, down
    ∷ listed 0x0017 Down 0x0028 1 1  -- RspUserLogoutField
    ∷ listed 0x0017 Down 0x0005 0 1  -- ErrorField
    -- RspUserPasswordUpdate, TID 0x0018, down
    ∷ listed 0x0018 Down 0x0029 1 1  -- RspUserPasswordUpdateField
    ∷ listed 0x0018 Down 0x0005 0 1  -- ErrorField
    -- TradeInsertSingle, TID 0x1001, down
    ∷ listed 0x1001 Down 0x002A 1 1  -- TradeInsertSingleField
    ∷ []

-- The table in columns, as the code has it, and its line i.
unfoldable pub line_tids : List ℕ
line_tids = map (λ (r : CompositionLine). r.tid) appendix_e

unfoldable pub directions : List ℕ
directions = map (λ (r : CompositionLine). r.direction) appendix_e

unfoldable pub fids : List ℕ
fids = map (λ (r : CompositionLine). r.fid) appendix_e

unfoldable pub leasts : List ℕ
leasts = map (λ (r : CompositionLine). r.least) appendix_e

unfoldable pub mosts : List ℕ
mosts = map (λ (r : CompositionLine). r.most) appendix_e

unfoldable pub line_at : ℕ → CompositionLine
line_at i =
    record {
      tid = get_or line_tids i 0;
      direction = get_or directions i 0;
      fid = get_or fids i 0;
      least = get_or leasts i 0;
      most = get_or mosts i 0;
    }

-- ─── Counts ───

-- A count is at least the least and at most the most.
unfoldable pub in_range : ℕ → ℕ → ℕ → Bool
in_range least most n = leb least n && (eqb most 0 || leb n most)

-- ─── Make-up ───

-- A line of Appendix E is of the message, and the content has its field as often as it says; lines of other messages
-- say nothing.
abbrev pub line_holds : CompositionLine → ℕ → ℕ → List ℕ → Bool
line_holds r tid direction content =
    cond (eqb r.tid tid && eqb r.direction direction) (in_range r.least r.most (count_of r.fid content))
    true

abbrev pub all_hold : List CompositionLine → ℕ → ℕ → List ℕ → Bool
all_hold [] tid direction content = true
all_hold (r ∷ rs) tid direction content = line_holds r tid direction content && all_hold rs tid direction content

-- Each field that Appendix E lists for the message occurs as often as listed. Order is free, fields that are not listed
-- pass, and so does a TID that has no message in that direction.
unfoldable pub composed : ℕ → Direction → List ℕ → Bool
composed tid d content = all_hold appendix_e tid (direction_of d) content
