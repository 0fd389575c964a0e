-- The table of all rows of Appendix D (01, "Typed items"), and what is taken from it. Types are those of Appendix B and
-- Table 6.
pub mod Helpers
pub mod Rule
use Rattle.std.specs.Prelude.{ℕ, ◌+◌, List, [], ◌∷◌, Bool, cond, length, ltb, eqb}

-- ─── Kinds of items' types ───

-- Table 6: Char without an enumeration, Word, Int, String, Number, Float; and Date, which is FTDDate of Appendix B
-- alone.
abbrev pub char_kind : ℕ
char_kind = 0

abbrev pub word_kind : ℕ
word_kind = 1

abbrev pub int_kind : ℕ
int_kind = 2

abbrev pub string_kind : ℕ
string_kind = 3

abbrev pub number_kind : ℕ
number_kind = 4

abbrev pub float_kind : ℕ
float_kind = 5

abbrev pub date_kind : ℕ
date_kind = 6

-- Char with an enumeration of Appendix B, by the values that it lists. A kind has the name of its first type.
-- 0 1 2: FTDActionFlag, FTDDataFlowFlag, FTDMatchFlag, FTDTradeRight
abbrev pub action_flag_kind : ℕ
action_flag_kind = 7

-- 0 1: FTDBoolFlag, FTDClientType, FTDDirection, FTDNewsUrgency, FTDPubStyle, FTDVolumeType
abbrev pub bool_flag_kind : ℕ
bool_flag_kind = 8

-- 0: FTDForceExitCode, FTDInstrumentType, FTDInstrumentVersion, FTDStopCode, FTDTradeType, FTDUserStatus, FTDUserType
abbrev pub force_exit_code_kind : ℕ
force_exit_code_kind = 9

-- 1 3: FTDHedgeFlag
abbrev pub hedge_flag_kind : ℕ
hedge_flag_kind = 10

-- 0 1 2 3 4: FTDInstrumentStatus, FTDMarketStatus, FTDParticipantType
abbrev pub instrument_status_kind : ℕ
instrument_status_kind = 11

-- 1 2 3 4 5: FTDMatchCondition
abbrev pub match_condition_kind : ℕ
match_condition_kind = 12

-- 1 2 3 4 5 6 7: FTDMatchSession
abbrev pub match_session_kind : ℕ
match_session_kind = 13

-- 0 1 2 3: FTDOffsetFlag
abbrev pub offset_flag_kind : ℕ
offset_flag_kind = 14

-- 0 1 2 3 4 5: FTDOrderStatus
abbrev pub order_status_kind : ℕ
order_status_kind = 15

-- 0 1 2 3 4 5 6: FTDOrderType
abbrev pub order_type_kind : ℕ
order_type_kind = 16

-- All, in order.
abbrev pub kinds : List ℕ
kinds =
    char_kind
    ∷ word_kind
    ∷ int_kind
    ∷ string_kind
    ∷ number_kind
    ∷ float_kind
    ∷ date_kind
    ∷ action_flag_kind
    ∷ bool_flag_kind
    ∷ force_exit_code_kind
    ∷ hedge_flag_kind
    ∷ instrument_status_kind
    ∷ match_condition_kind
    ∷ match_session_kind
    ∷ offset_flag_kind
    ∷ order_status_kind
    ∷ order_type_kind
    ∷ []

-- The first and the last of those with an enumeration.
abbrev pub first_listed : ℕ
first_listed = action_flag_kind

abbrev pub last_listed : ℕ
last_listed = order_type_kind

-- ─── Rows ───

-- A row: the field (FID), the kind of the item's type, its width in bytes, and its decimals (Float only, else 0).
pub record Row : Type 0 where
  pub fid : ℕ
  pub kind : ℕ
  pub width : ℕ
  pub scale : ℕ

abbrev pub row : ℕ → ℕ → ℕ → ℕ → Row
row f k w s = record { fid = f; kind = k; width = w; scale = s }

-- The values that the enumerations list, as Appendix B prints them, from the first listed kind to the last.
unfoldable pub enumerations : List (List ℕ)
enumerations =
    (0 ∷ 1 ∷ 2 ∷ [])
    ∷ (0 ∷ 1 ∷ [])
    ∷ (0 ∷ [])
    ∷ (1 ∷ 3 ∷ [])
    ∷ (0 ∷ 1 ∷ 2 ∷ 3 ∷ 4 ∷ [])
    ∷ (1 ∷ 2 ∷ 3 ∷ 4 ∷ 5 ∷ [])
    ∷ (1 ∷ 2 ∷ 3 ∷ 4 ∷ 5 ∷ 6 ∷ 7 ∷ [])
    ∷ (0 ∷ 1 ∷ 2 ∷ 3 ∷ [])
    ∷ (0 ∷ 1 ∷ 2 ∷ 3 ∷ 4 ∷ 5 ∷ [])
    ∷ (0 ∷ 1 ∷ 2 ∷ 3 ∷ 4 ∷ 5 ∷ 6 ∷ [])
    ∷ []

-- ─── The rows of a field ───

-- Those of some rows, in order.
abbrev pub keep : ℕ → List Row → List Row
keep fid [] = []
keep fid (r ∷ rs) = cond (eqb r.fid fid) (r ∷ keep fid rs) (keep fid rs)

-- Their widths together.
abbrev pub total : List Row → ℕ
total [] = 0
total (r ∷ rs) = r.width + total rs

-- ─── Appendix D ───

-- A row a line, in the paper's order: FID, kind, width, decimals; item and type as printed.
unfoldable pub table : List Row
table =
    -- BulletinField, FID 0x0001: 8 rows, 822 bytes
    row 0x0001 string_kind 3 0  -- NewsType FTDNewsType
    ∷ row 0x0001 bool_flag_kind 1 0  -- NewsUrgency FTDNewsUrgency
    ∷ row 0x0001 string_kind 8 0  -- SendTime FTDTime
    ∷ row 0x0001 string_kind 80 0  -- Abstract FTDStringType<80>
    ∷ row 0x0001 string_kind 20 0  -- ComeFrom FTDStringType<20>
    ∷ row 0x0001 string_kind 10 0  -- MarketId FTDMarketId
    ∷ row 0x0001 string_kind 500 0  -- Content FTDStringType<500>
    ∷ row 0x0001 string_kind 200 0  -- URLLink FTDStringType<200>
    -- ClientField, FID 0x0002: 5 rows, 98 bytes
    ∷ row 0x0002 string_kind 8 0  -- ClientId FTDClientId
    ∷ row 0x0002 string_kind 8 0  -- ParticipantId FTDParticipantId
    ∷ row 0x0002 string_kind 80 0  -- ClientName FTDName
    ∷ row 0x0002 bool_flag_kind 1 0  -- ClientType FTDClientType
    ∷ row 0x0002 action_flag_kind 1 0  -- TradeRights FTDTradeRight
    -- DepositField, FID 0x0003: 27 rows, 353 bytes
    ∷ row 0x0003 string_kind 8 0  -- ParticipantId FTDParticipantId
    ∷ row 0x0003 instrument_status_kind 1 0  -- ParticipantType FTDParticipantType
    ∷ row 0x0003 date_kind 8 0  -- TradeDate FTDDate
    ∷ row 0x0003 float_kind 14 2  -- InitMargin FTDValue
    ∷ row 0x0003 float_kind 14 2  -- BuySpecOpenUsedMargin FTDValue
    ∷ row 0x0003 float_kind 14 2  -- BuyHedgeOpenUsedMargin FTDValue
    ∷ row 0x0003 float_kind 14 2  -- SellSpecOpenUsedMargin FTDValue
    ∷ row 0x0003 float_kind 14 2  -- SellHedgeOpenUsedMargin FTDValue
    ∷ row 0x0003 float_kind 14 2  -- BuySpecOffsetProfit FTDValue
    ∷ row 0x0003 float_kind 14 2  -- BuyHedgeOffsetProfit FTDValue
    ∷ row 0x0003 float_kind 14 2  -- SellSpecOffsetProfit FTDValue
    ∷ row 0x0003 float_kind 14 2  -- SellHedgeOffsetProfit FTDValue
    ∷ row 0x0003 float_kind 14 2  -- BuySpecOpenFrozMargin FTDValue
    ∷ row 0x0003 float_kind 14 2  -- BuyHedgeOpenFrozMargin FTDValue
    ∷ row 0x0003 float_kind 14 2  -- SellSpecOpenFrozMargin FTDValue
    ∷ row 0x0003 float_kind 14 2  -- SellHedgeOpenFrozMargin FTDValue
    ∷ row 0x0003 float_kind 14 2  -- BuySpecOffsetMargin FTDValue
    ∷ row 0x0003 float_kind 14 2  -- BuyHedgeOffsetMargin FTDValue
    ∷ row 0x0003 float_kind 14 2  -- SellSpecOffsetMargin FTDValue
    ∷ row 0x0003 float_kind 14 2  -- SellHedgeOffsetMargin FTDValue
    ∷ row 0x0003 float_kind 14 2  -- BuySpecTurnOver FTDValue
    ∷ row 0x0003 float_kind 14 2  -- BuyHedgeTurnOver FTDValue
    ∷ row 0x0003 float_kind 14 2  -- SellSpecTurnOver FTDValue
    ∷ row 0x0003 float_kind 14 2  -- SellHedgeTurnOver FTDValue
    ∷ row 0x0003 float_kind 14 2  -- AddValue FTDValue
    ∷ row 0x0003 float_kind 14 2  -- DelValue FTDValue
    ∷ row 0x0003 float_kind 14 2  -- BalanceValue FTDValue
    -- DisseminationstartField, FID 0x0004: 2 rows, 6 bytes
    ∷ row 0x0004 word_kind 2 0  -- SequenceSeries FTDSequenceSeries
    ∷ row 0x0004 int_kind 4 0  -- SequenceNo FTDSequenceNo
    -- ErrorField, FID 0x0005: 3 rows, 130 bytes
    ∷ row 0x0005 string_kind 10 0  -- ErrorCode FTDErrorCode
    ∷ row 0x0005 string_kind 100 0  -- ErrorText FTDStringType<100>
    ∷ row 0x0005 string_kind 20 0  -- TimeStamp FTDTimeStamp
    -- ErrorTargetOrderField, FID 0x002D: 2 rows, 44 bytes
    ∷ row 0x002D string_kind 20 0  -- OrderSysId FTDSysOrderId
    ∷ row 0x002D string_kind 24 0  -- OrderLocalId FTDLocalId
    -- ErrorTargetSequenceField, FID 0x002E: 2 rows, 6 bytes
    ∷ row 0x002E word_kind 2 0  -- SequenceSeries FTDSequenceSeries
    ∷ row 0x002E int_kind 4 0  -- SequenceNo FTDSequenceNo
    -- ForceExitField, FID 0x0006: 2 rows, 101 bytes
    ∷ row 0x0006 force_exit_code_kind 1 0  -- ForceExitCode FTDForceExitCode
    ∷ row 0x0006 string_kind 100 0  -- ForceExitMsg FTDStringType<100>
    -- InstrumentField, FID 0x0007: 26 rows, 201 bytes
    ∷ row 0x0007 string_kind 10 0  -- MarketId FTDMarketId
    ∷ row 0x0007 string_kind 10 0  -- InstrumentId FTDInstrumentId
    ∷ row 0x0007 force_exit_code_kind 1 0  -- InstrumentVersion FTDInstrumentVersion
    ∷ row 0x0007 string_kind 80 0  -- InstrumentName FTDName
    ∷ row 0x0007 char_kind 1 0  -- ShortCutKey FTDCharType
    ∷ row 0x0007 date_kind 8 0  -- StartTrdDate FTDDate
    ∷ row 0x0007 date_kind 8 0  -- EndTrdDate FTDDate
    ∷ row 0x0007 force_exit_code_kind 1 0  -- InstrumentType FTDInstrumentType
    ∷ row 0x0007 date_kind 8 0  -- EndDelvDate FTDDate
    ∷ row 0x0007 date_kind 8 0  -- StartDelvDate FTDDate
    ∷ row 0x0007 force_exit_code_kind 1 0  -- InstrStopCode FTDStopCode
    ∷ row 0x0007 string_kind 3 0  -- Currency FTDStringType<3>
    ∷ row 0x0007 action_flag_kind 1 0  -- TradeRights FTDTradeRight
    ∷ row 0x0007 bool_flag_kind 1 0  -- FuseRights FTDBoolFlag
    ∷ row 0x0007 int_kind 4 0  -- Unit FTDIntType
    ∷ row 0x0007 float_kind 12 4  -- Tick FTDPrice
    ∷ row 0x0007 float_kind 4 2  -- HighLimitRate FTDPercent
    ∷ row 0x0007 float_kind 4 2  -- LowLimitRate FTDPercent
    ∷ row 0x0007 int_kind 4 0  -- MaxLot FTDVolume
    ∷ row 0x0007 int_kind 4 0  -- MinLot FTDVolume
    ∷ row 0x0007 bool_flag_kind 1 0  -- Pubstyle FTDPubStyle
    ∷ row 0x0007 float_kind 12 4  -- Fuselimit FTDPrice
    ∷ row 0x0007 int_kind 4 0  -- Fusepersisttime FTDIntType
    ∷ row 0x0007 string_kind 6 0  -- Fusepoint FTDStringType<6>
    ∷ row 0x0007 bool_flag_kind 1 0  -- FuseFlag FTDBoolFlag
    ∷ row 0x0007 int_kind 4 0  -- Forcedistime FTDIntType
    -- InstrumentStatusField, FID 0x0008: 2 rows, 11 bytes
    ∷ row 0x0008 string_kind 10 0  -- InstrumentId FTDInstrumentId
    ∷ row 0x0008 instrument_status_kind 1 0  -- InstrumentStatus FTDInstrumentStatus
    -- MarketField, FID 0x0026: 4 rows, 93 bytes
    ∷ row 0x0026 string_kind 10 0  -- MarketId FTDMarketId
    ∷ row 0x0026 string_kind 80 0  -- MarketName FTDName
    ∷ row 0x0026 word_kind 2 0  -- BroadcastSequenceSeries FTDWordType
    ∷ row 0x0026 force_exit_code_kind 1 0  -- TradeType FTDTradeType
    -- MarketMatchDataChgField, FID 0x0012: 12 rows, 99 bytes
    ∷ row 0x0012 string_kind 10 0  -- InstrumentId FTDInstrumentId
    ∷ row 0x0012 force_exit_code_kind 1 0  -- InstrumentVersion FTDInstrumentVersion
    ∷ row 0x0012 float_kind 12 4  -- OpenPrice FTDPrice
    ∷ row 0x0012 float_kind 12 4  -- HighPrice FTDPrice
    ∷ row 0x0012 float_kind 12 4  -- LowPrice FTDPrice
    ∷ row 0x0012 float_kind 12 4  -- LastPrice FTDPrice
    ∷ row 0x0012 float_kind 12 4  -- BidPrice FTDPrice
    ∷ row 0x0012 float_kind 12 4  -- AskPrice FTDPrice
    ∷ row 0x0012 int_kind 4 0  -- BidLot FTDVolume
    ∷ row 0x0012 int_kind 4 0  -- AskLot FTDVolume
    ∷ row 0x0012 int_kind 4 0  -- Volume FTDVolume
    ∷ row 0x0012 int_kind 4 0  -- OpenInterest FTDVolume
    -- MarketMatchDataField, FID 0x0013: 30 rows, 252 bytes
    ∷ row 0x0013 string_kind 10 0  -- InstrumentId FTDInstrumentId
    ∷ row 0x0013 force_exit_code_kind 1 0  -- InstrumentVersion FTDInstrumentVersion
    ∷ row 0x0013 float_kind 12 4  -- PreClose FTDPrice
    ∷ row 0x0013 float_kind 12 4  -- PreSettle FTDPrice
    ∷ row 0x0013 int_kind 4 0  -- PreOpenInterest FTDVolume
    ∷ row 0x0013 float_kind 12 4  -- OpenPrice FTDPrice
    ∷ row 0x0013 float_kind 12 4  -- BidPrice FTDPrice
    ∷ row 0x0013 int_kind 4 0  -- BidLot FTDVolume
    ∷ row 0x0013 float_kind 12 4  -- AskPrice FTDPrice
    ∷ row 0x0013 int_kind 4 0  -- AskLot FTDVolume
    ∷ row 0x0013 float_kind 12 4  -- LastPrice FTDPrice
    ∷ row 0x0013 int_kind 4 0  -- LastLot FTDVolume
    ∷ row 0x0013 int_kind 4 0  -- TradeLot FTDIntType
    ∷ row 0x0013 int_kind 4 0  -- TradeTurnover FTDVolume
    ∷ row 0x0013 int_kind 4 0  -- OpenInterest FTDVolume
    ∷ row 0x0013 float_kind 12 4  -- HighPrice FTDPrice
    ∷ row 0x0013 float_kind 12 4  -- LowPrice FTDPrice
    ∷ row 0x0013 float_kind 12 4  -- ClosePrice FTDPrice
    ∷ row 0x0013 float_kind 12 4  -- SettlePrice FTDPrice
    ∷ row 0x0013 float_kind 12 4  -- ClearPrice FTDPrice
    ∷ row 0x0013 float_kind 12 4  -- AveragePrice FTDPrice
    ∷ row 0x0013 float_kind 12 4  -- LifeHigh FTDPrice
    ∷ row 0x0013 float_kind 12 4  -- LifeLow FTDPrice
    ∷ row 0x0013 float_kind 12 4  -- HighLimit FTDPrice
    ∷ row 0x0013 float_kind 12 4  -- LowLimit FTDPrice
    ∷ row 0x0013 int_kind 4 0  -- TotalVolume FTDVolume
    ∷ row 0x0013 string_kind 8 0  -- UpdateTime FTDTime
    ∷ row 0x0013 bool_flag_kind 1 0  -- MarketMatchDataStatus FTDBoolFlag
    ∷ row 0x0013 int_kind 4 0  -- TotalMarketMatchData FTDIntType
    ∷ row 0x0013 int_kind 4 0  -- BroadcastSequenceNo FTDIntType
    -- MarketMatchIncDataField, FID 0x000A: 6 rows, 29 bytes
    ∷ row 0x000A string_kind 10 0  -- InstrumentId FTDInstrumentId
    ∷ row 0x000A force_exit_code_kind 1 0  -- InstrumentVersion FTDInstrumentVersion
    ∷ row 0x000A bool_flag_kind 1 0  -- VolumeType FTDVolumeType
    ∷ row 0x000A float_kind 12 4  -- Price FTDPrice
    ∷ row 0x000A int_kind 4 0  -- Volume FTDVolume
    ∷ row 0x000A action_flag_kind 1 0  -- MatchFlag FTDMatchFlag
    -- MarketOrderDataField, FID 0x000D: 7 rows, 33 bytes
    ∷ row 0x000D string_kind 10 0  -- InstrumentId FTDInstrumentId
    ∷ row 0x000D force_exit_code_kind 1 0  -- InstrumentVersion FTDInstrumentVersion
    ∷ row 0x000D bool_flag_kind 1 0  -- VolumeType FTDVolumeType
    ∷ row 0x000D bool_flag_kind 1 0  -- Direction FTDDirection
    ∷ row 0x000D float_kind 12 4  -- Price FTDPrice
    ∷ row 0x000D int_kind 4 0  -- Volume FTDVolume
    ∷ row 0x000D int_kind 4 0  -- BroadcastSequenceNo FTDIntType
    -- MarketStatusField, FID 0x0009: 3 rows, 15 bytes
    ∷ row 0x0009 string_kind 10 0  -- MarketId FTDMarketId
    ∷ row 0x0009 instrument_status_kind 1 0  -- MarketStatusId FTDMarketStatus
    ∷ row 0x0009 int_kind 4 0  -- BroadcastSequenceNo FTDIntType
    -- OrderActionField, FID 0x000B: 6 rows, 71 bytes
    ∷ row 0x000B action_flag_kind 1 0  -- OrderActionCode FTDActionFlag
    ∷ row 0x000B string_kind 20 0  -- OrderSysId FTDSysOrderId
    ∷ row 0x000B string_kind 24 0  -- ActionLocalId FTDLocalId
    ∷ row 0x000B string_kind 10 0  -- InstrumentId FTDInstrumentId
    ∷ row 0x000B force_exit_code_kind 1 0  -- InstrumentVersion FTDInstrumentVersion
    ∷ row 0x000B string_kind 15 0  -- UserId FTDUserId
    -- OrderInsertField, FID 0x000C: 20 rows, 158 bytes
    ∷ row 0x000C string_kind 20 0  -- OrderSysId FTDSysOrderId
    ∷ row 0x000C string_kind 24 0  -- OrderLocalId FTDLocalId
    ∷ row 0x000C string_kind 15 0  -- UserId FTDUserId
    ∷ row 0x000C string_kind 8 0  -- ParticipantId FTDParticipantId
    ∷ row 0x000C string_kind 8 0  -- ClientId FTDClientId
    ∷ row 0x000C string_kind 10 0  -- InstrumentId FTDInstrumentId
    ∷ row 0x000C bool_flag_kind 1 0  -- Direction FTDDirection
    ∷ row 0x000C offset_flag_kind 1 0  -- OffsetFlag FTDOffsetFlag
    ∷ row 0x000C hedge_flag_kind 1 0  -- HedgeFlag FTDHedgeFlag
    ∷ row 0x000C float_kind 12 4  -- StopPrice FTDPrice
    ∷ row 0x000C float_kind 12 4  -- LimitPrice FTDPrice
    ∷ row 0x000C int_kind 4 0  -- VolumeTotalOriginal FTDIntType
    ∷ row 0x000C order_type_kind 1 0  -- OrderType FTDOrderType
    ∷ row 0x000C match_condition_kind 1 0  -- MatchCondition FTDMatchCondition
    ∷ row 0x000C match_session_kind 1 0  -- MatchSession FTDMatchSession
    ∷ row 0x000C date_kind 8 0  -- ValidThrough FTDDate
    ∷ row 0x000C int_kind 4 0  -- MinimalVolume FTDVolume
    ∷ row 0x000C bool_flag_kind 1 0  -- AutoSuspend FTDBoolFlag
    ∷ row 0x000C string_kind 20 0  -- InsertTime FTDDateTime
    ∷ row 0x000C string_kind 6 0  -- MessageReference FTDMsgRef
    -- OrderStatusField, FID 0x000E: 30 rows, 254 bytes
    ∷ row 0x000E string_kind 20 0  -- OrderSysId FTDSysOrderId
    ∷ row 0x000E string_kind 24 0  -- OrderLocalId FTDLocalId
    ∷ row 0x000E string_kind 15 0  -- UserId FTDUserId
    ∷ row 0x000E string_kind 8 0  -- ParticipantId FTDParticipantId
    ∷ row 0x000E string_kind 8 0  -- ClientId FTDClientId
    ∷ row 0x000E string_kind 10 0  -- InstrumentId FTDInstrumentId
    ∷ row 0x000E bool_flag_kind 1 0  -- Direction FTDDirection
    ∷ row 0x000E offset_flag_kind 1 0  -- OffsetFlag FTDOffsetFlag
    ∷ row 0x000E hedge_flag_kind 1 0  -- HedgeFlag FTDHedgeFlag
    ∷ row 0x000E float_kind 12 4  -- StopPrice FTDPrice
    ∷ row 0x000E float_kind 12 4  -- LimitPrice FTDPrice
    ∷ row 0x000E int_kind 4 0  -- VolumeTotalOriginal FTDIntType
    ∷ row 0x000E order_type_kind 1 0  -- OrderType FTDOrderType
    ∷ row 0x000E int_kind 4 0  -- VolumeTotal FTDIntType
    ∷ row 0x000E match_condition_kind 1 0  -- MatchCondition FTDMatchCondition
    ∷ row 0x000E match_session_kind 1 0  -- MatchSession FTDMatchSession
    ∷ row 0x000E date_kind 8 0  -- ValidThrough FTDDate
    ∷ row 0x000E int_kind 4 0  -- MinimalVolume FTDVolume
    ∷ row 0x000E bool_flag_kind 1 0  -- AutoSuspend FTDBoolFlag
    ∷ row 0x000E order_status_kind 1 0  -- OrderStatus FTDOrderStatus
    ∷ row 0x000E string_kind 20 0  -- InsertTime FTDDateTime
    ∷ row 0x000E string_kind 8 0  -- ActiveTime FTDTime
    ∷ row 0x000E string_kind 8 0  -- SuspendTime FTDTime
    ∷ row 0x000E string_kind 8 0  -- UpdateTime FTDTime
    ∷ row 0x000E string_kind 15 0  -- ActiveUserId FTDUserId
    ∷ row 0x000E float_kind 12 4  -- Margin FTDPrice
    ∷ row 0x000E string_kind 24 0  -- ForceGroupId FTDLocalId
    ∷ row 0x000E float_kind 12 4  -- TradePrice FTDPrice
    ∷ row 0x000E int_kind 4 0  -- TradeVolume FTDIntType
    ∷ row 0x000E string_kind 6 0  -- MessageReference FTDMsgRef
    -- ParticipantField, FID 0x000F: 4 rows, 90 bytes
    ∷ row 0x000F string_kind 8 0  -- ParticipantId FTDParticipantId
    ∷ row 0x000F string_kind 80 0  -- ParticipantName FTDName
    ∷ row 0x000F instrument_status_kind 1 0  -- ParticipantType FTDParticipantType
    ∷ row 0x000F action_flag_kind 1 0  -- PartiTrdRight FTDTradeRight
    -- PositionField, FID 0x0010: 37 rows, 163 bytes
    ∷ row 0x0010 string_kind 8 0  -- ParticipantId FTDParticipantId
    ∷ row 0x0010 string_kind 8 0  -- ClientId FTDClientId
    ∷ row 0x0010 string_kind 10 0  -- InstrumentId FTDInstrumentId
    ∷ row 0x0010 force_exit_code_kind 1 0  -- InstrumentVersion FTDInstrumentVersion
    ∷ row 0x0010 date_kind 8 0  -- TradeDate FTDDate
    ∷ row 0x0010 int_kind 4 0  -- YdBuyHedgePosition FTDVolume
    ∷ row 0x0010 int_kind 4 0  -- YdBuySpecPosition FTDVolume
    ∷ row 0x0010 int_kind 4 0  -- YdSellHedgePosition FTDVolume
    ∷ row 0x0010 int_kind 4 0  -- YdSellSpecPosition FTDVolume
    ∷ row 0x0010 int_kind 4 0  -- BuyHedgeVolume FTDVolume
    ∷ row 0x0010 int_kind 4 0  -- BuySpecVolume FTDVolume
    ∷ row 0x0010 int_kind 4 0  -- SellHedgeVolume FTDVolume
    ∷ row 0x0010 int_kind 4 0  -- SellSpecVolume FTDVolume
    ∷ row 0x0010 int_kind 4 0  -- BuyHedgePosition FTDVolume
    ∷ row 0x0010 int_kind 4 0  -- BuySpecPosition FTDVolume
    ∷ row 0x0010 int_kind 4 0  -- SellHedgePosition FTDVolume
    ∷ row 0x0010 int_kind 4 0  -- SellSpecPosition FTDVolume
    ∷ row 0x0010 int_kind 4 0  -- BuyOffsHPosition FTDVolume
    ∷ row 0x0010 int_kind 4 0  -- BuyOffsSPosition FTDVolume
    ∷ row 0x0010 int_kind 4 0  -- SellOffsHPosition FTDVolume
    ∷ row 0x0010 int_kind 4 0  -- SellOffsSPosition FTDVolume
    ∷ row 0x0010 int_kind 4 0  -- YdBuyOffsHPosition FTDVolume
    ∷ row 0x0010 int_kind 4 0  -- YdBuyOffsSPosition FTDVolume
    ∷ row 0x0010 int_kind 4 0  -- YdSellOffsHPosition FTDVolume
    ∷ row 0x0010 int_kind 4 0  -- YdSellOffsSPosition FTDVolume
    ∷ row 0x0010 int_kind 4 0  -- LongOpenFrozHPosition FTDVolume
    ∷ row 0x0010 int_kind 4 0  -- LongOpenFrozSPosition FTDVolume
    ∷ row 0x0010 int_kind 4 0  -- ShortOpenFrozHPosition FTDVolume
    ∷ row 0x0010 int_kind 4 0  -- ShortOpenFrozSPosition FTDVolume
    ∷ row 0x0010 int_kind 4 0  -- LongOffsFrozHPosition FTDVolume
    ∷ row 0x0010 int_kind 4 0  -- LongOffsFrozSPosition FTDVolume
    ∷ row 0x0010 int_kind 4 0  -- ShortOffsFrozHPosition FTDVolume
    ∷ row 0x0010 int_kind 4 0  -- ShortOffsFrozSPosition FTDVolume
    ∷ row 0x0010 int_kind 4 0  -- YdLongOffsFrozHPosition FTDVolume
    ∷ row 0x0010 int_kind 4 0  -- YdLongOffsFrozSPosition FTDVolume
    ∷ row 0x0010 int_kind 4 0  -- YdShortOffsFrozHPosition FTDVolume
    ∷ row 0x0010 int_kind 4 0  -- YdShortOffsFrozSPosition FTDVolume
    -- PPositionField, FID 0x0011: 36 rows, 155 bytes
    ∷ row 0x0011 string_kind 8 0  -- ParticipantId FTDParticipantId
    ∷ row 0x0011 string_kind 10 0  -- InstrumentId FTDInstrumentId
    ∷ row 0x0011 force_exit_code_kind 1 0  -- InstrumentVersion FTDInstrumentVersion
    ∷ row 0x0011 date_kind 8 0  -- TradeDate FTDDate
    ∷ row 0x0011 int_kind 4 0  -- YdBuyHedgePosition FTDVolume
    ∷ row 0x0011 int_kind 4 0  -- YdBuySpecPosition FTDVolume
    ∷ row 0x0011 int_kind 4 0  -- YdSellHedgePosition FTDVolume
    ∷ row 0x0011 int_kind 4 0  -- YdSellSpecPosition FTDVolume
    ∷ row 0x0011 int_kind 4 0  -- BuyHedgeVolume FTDVolume
    ∷ row 0x0011 int_kind 4 0  -- BuySpecVolume FTDVolume
    ∷ row 0x0011 int_kind 4 0  -- SellHedgeVolume FTDVolume
    ∷ row 0x0011 int_kind 4 0  -- SellSpecVolume FTDVolume
    ∷ row 0x0011 int_kind 4 0  -- BuyHedgePosition FTDVolume
    ∷ row 0x0011 int_kind 4 0  -- BuySpecPosition FTDVolume
    ∷ row 0x0011 int_kind 4 0  -- SellHedgePosition FTDVolume
    ∷ row 0x0011 int_kind 4 0  -- SellSpecPosition FTDVolume
    ∷ row 0x0011 int_kind 4 0  -- BuyOffsHPosition FTDVolume
    ∷ row 0x0011 int_kind 4 0  -- BuyOffsSPosition FTDVolume
    ∷ row 0x0011 int_kind 4 0  -- SellOffsHPosition FTDVolume
    ∷ row 0x0011 int_kind 4 0  -- SellOffsSPosition FTDVolume
    ∷ row 0x0011 int_kind 4 0  -- YdBuyOffsHPosition FTDVolume
    ∷ row 0x0011 int_kind 4 0  -- YdBuyOffsSPosition FTDVolume
    ∷ row 0x0011 int_kind 4 0  -- YdSellOffsHPosition FTDVolume
    ∷ row 0x0011 int_kind 4 0  -- YdSellOffsSPosition FTDVolume
    ∷ row 0x0011 int_kind 4 0  -- LongOpenFrozHPosition FTDVolume
    ∷ row 0x0011 int_kind 4 0  -- LongOpenFrozSPosition FTDVolume
    ∷ row 0x0011 int_kind 4 0  -- ShortOpenFrozHPosition FTDVolume
    ∷ row 0x0011 int_kind 4 0  -- ShortOpenFrozSPosition FTDVolume
    ∷ row 0x0011 int_kind 4 0  -- LongOffsFrozHPosition FTDVolume
    ∷ row 0x0011 int_kind 4 0  -- LongOffsFrozSPosition FTDVolume
    ∷ row 0x0011 int_kind 4 0  -- ShortOffsFrozHPosition FTDVolume
    ∷ row 0x0011 int_kind 4 0  -- ShortOffsFrozSPosition FTDVolume
    ∷ row 0x0011 int_kind 4 0  -- YdLongOffsFrozHPosition FTDVolume
    ∷ row 0x0011 int_kind 4 0  -- YdLongOffsFrozSPosition FTDVolume
    ∷ row 0x0011 int_kind 4 0  -- YdShortOffsFrozHPosition FTDVolume
    ∷ row 0x0011 int_kind 4 0  -- YdShortOffsFrozSPosition FTDVolume
    -- ReqQryClientField, FID 0x0014: 2 rows, 16 bytes
    ∷ row 0x0014 string_kind 8 0  -- ParticipantId FTDParticipantId
    ∷ row 0x0014 string_kind 8 0  -- ClientId FTDClientId
    -- ReqQryDepositField, FID 0x0015: 1 rows, 8 bytes
    ∷ row 0x0015 string_kind 8 0  -- ParticipantId FTDParticipantId
    -- ReqQryInstrumentField, FID 0x0016: 2 rows, 20 bytes
    ∷ row 0x0016 string_kind 10 0  -- MarketId FTDMarketId
    ∷ row 0x0016 string_kind 10 0  -- InstrumentId FTDInstrumentId
    -- ReqQryInstrumentStatusField, FID 0x0017: 2 rows, 20 bytes
    ∷ row 0x0017 string_kind 10 0  -- MarketId FTDMarketId
    ∷ row 0x0017 string_kind 10 0  -- InstrumentId FTDInstrumentId
    -- ReqQryMarketField, FID 0x0018: 1 rows, 10 bytes
    ∷ row 0x0018 string_kind 10 0  -- MarketId FTDMarketId
    -- ReqQryMarketMatchDataField, FID 0x001F: 1 rows, 10 bytes
    ∷ row 0x001F string_kind 10 0  -- InstrumentId FTDInstrumentId
    -- ReqQryMarketOrderDataField, FID 0x001B: 2 rows, 11 bytes
    ∷ row 0x001B string_kind 10 0  -- InstrumentId FTDInstrumentId
    ∷ row 0x001B bool_flag_kind 1 0  -- Direction FTDDirection
    -- ReqQryMarketStatusField, FID 0x0019: 1 rows, 10 bytes
    ∷ row 0x0019 string_kind 10 0  -- MarketId FTDMarketId
    -- ReqQryOrderField, FID 0x001A: 6 rows, 62 bytes
    ∷ row 0x001A string_kind 10 0  -- InstrumentId FTDInstrumentId
    ∷ row 0x001A force_exit_code_kind 1 0  -- InstrumentVersion FTDInstrumentVersion
    ∷ row 0x001A string_kind 8 0  -- ParticipantId FTDParticipantId
    ∷ row 0x001A string_kind 15 0  -- UserId FTDUserId
    ∷ row 0x001A string_kind 8 0  -- ClientId FTDClientId
    ∷ row 0x001A string_kind 20 0  -- OrderSysId FTDSysOrderId
    -- ReqQryParticipantField, FID 0x001C: 1 rows, 8 bytes
    ∷ row 0x001C string_kind 8 0  -- ParticipantId FTDParticipantId
    -- ReqQryPositionField, FID 0x001D: 3 rows, 26 bytes
    ∷ row 0x001D string_kind 8 0  -- ParticipantId FTDParticipantId
    ∷ row 0x001D string_kind 8 0  -- ClientId FTDClientId
    ∷ row 0x001D string_kind 10 0  -- InstrumentId FTDInstrumentId
    -- ReqQryPPositionField, FID 0x001E: 2 rows, 18 bytes
    ∷ row 0x001E string_kind 8 0  -- ParticipantId FTDParticipantId
    ∷ row 0x001E string_kind 10 0  -- InstrumentId FTDInstrumentId
    -- ReqQryTradeField, FID 0x0020: 8 rows, 78 bytes
    ∷ row 0x0020 string_kind 10 0  -- InstrumentId FTDInstrumentId
    ∷ row 0x0020 force_exit_code_kind 1 0  -- InstrumentVersion FTDInstrumentVersion
    ∷ row 0x0020 string_kind 8 0  -- ParticipantId FTDParticipantId
    ∷ row 0x0020 string_kind 15 0  -- UserId FTDUserId
    ∷ row 0x0020 string_kind 8 0  -- ClientId FTDClientId
    ∷ row 0x0020 string_kind 20 0  -- OrderSysId FTDSysOrderId
    ∷ row 0x0020 string_kind 8 0  -- StartTime FTDTime
    ∷ row 0x0020 string_kind 8 0  -- ThroughTime FTDTime
    -- ReqQryUserField, FID 0x0021: 2 rows, 23 bytes
    ∷ row 0x0021 string_kind 8 0  -- ParticipantId FTDParticipantId
    ∷ row 0x0021 string_kind 15 0  -- UserId FTDUserId
    -- ReqQryUserLoginField, FID 0x0022: 2 rows, 23 bytes
    ∷ row 0x0022 string_kind 8 0  -- ParticipantId FTDParticipantId
    ∷ row 0x0022 string_kind 15 0  -- UserId FTDUserId
    -- ReqUserLoginField, FID 0x0023: 9 rows, 120 bytes
    ∷ row 0x0023 action_flag_kind 1 0  -- DataFlowFlag FTDDataFlowFlag
    ∷ row 0x0023 string_kind 8 0  -- ParticipantId FTDParticipantId
    ∷ row 0x0023 string_kind 15 0  -- UserId FTDUserId
    ∷ row 0x0023 string_kind 40 0  -- Password FTDPassword
    ∷ row 0x0023 string_kind 5 0  -- ConnectionReference FTDConnectionReference
    ∷ row 0x0023 string_kind 20 0  -- ServerAppName FTDServerAppName
    ∷ row 0x0023 string_kind 8 0  -- ProtocolVersion FTDProtocolVersion
    ∷ row 0x0023 number_kind 3 0  -- TimeOut FTDTimeOut
    ∷ row 0x0023 string_kind 20 0  -- IpAddr FTDStringType<20>
    -- ReqUserLogoutField, FID 0x0024: 3 rows, 24 bytes
    ∷ row 0x0024 action_flag_kind 1 0  -- DataFlowFlag FTDDataFlowFlag
    ∷ row 0x0024 string_kind 8 0  -- ParticipantId FTDParticipantId
    ∷ row 0x0024 string_kind 15 0  -- UserId FTDUserId
    -- ReqUserPasswordUpdateField, FID 0x0025: 4 rows, 103 bytes
    ∷ row 0x0025 string_kind 8 0  -- ParticipantId FTDParticipantId
    ∷ row 0x0025 string_kind 15 0  -- UserId FTDUserId
    ∷ row 0x0025 string_kind 40 0  -- NewPassword FTDPassword
    ∷ row 0x0025 string_kind 40 0  -- OldPassword FTDPassword
    -- RspUserLoginField, FID 0x0027: 8 rows, 131 bytes
    ∷ row 0x0027 action_flag_kind 1 0  -- DataFlowFlag FTDDataFlowFlag
    ∷ row 0x0027 string_kind 8 0  -- ParticipantId FTDParticipantId
    ∷ row 0x0027 string_kind 15 0  -- UserId FTDUserId
    ∷ row 0x0027 string_kind 40 0  -- Password FTDPassword
    ∷ row 0x0027 string_kind 20 0  -- ExchangeDateTime FTDDateTime
    ∷ row 0x0027 number_kind 3 0  -- TimeSpan FTDNumberType<3>
    ∷ row 0x0027 string_kind 20 0  -- IpAddr FTDStringType<20>
    ∷ row 0x0027 string_kind 24 0  -- MaxOrderLocalId FTDLocalId
    -- RspUserLogoutField, FID 0x0028: 4 rows, 44 bytes
    ∷ row 0x0028 action_flag_kind 1 0  -- DataFlowFlag FTDDataFlowFlag
    ∷ row 0x0028 string_kind 8 0  -- ParticipantId FTDParticipantId
    ∷ row 0x0028 string_kind 15 0  -- UserId FTDUserId
    ∷ row 0x0028 string_kind 20 0  -- ExchangeDateTime FTDDateTime
    -- RspUserPasswordUpdateField, FID 0x0029: 3 rows, 63 bytes
    ∷ row 0x0029 string_kind 8 0  -- ParticipantId FTDParticipantId
    ∷ row 0x0029 string_kind 15 0  -- UserId FTDUserId
    ∷ row 0x0029 string_kind 40 0  -- NewPassword FTDPassword
    -- TradeInsertSingleField, FID 0x002A: 19 rows, 166 bytes
    ∷ row 0x002A string_kind 10 0  -- InstrumentId FTDInstrumentId
    ∷ row 0x002A force_exit_code_kind 1 0  -- InstrumentVersion FTDInstrumentVersion
    ∷ row 0x002A bool_flag_kind 1 0  -- CancelFlag FTDBoolFlag
    ∷ row 0x002A date_kind 8 0  -- CancelDate FTDDate
    ∷ row 0x002A string_kind 8 0  -- CancelTime FTDTime
    ∷ row 0x002A string_kind 20 0  -- TradeId FTDTradeId
    ∷ row 0x002A date_kind 8 0  -- MatchDate FTDDate
    ∷ row 0x002A string_kind 8 0  -- MatchTime FTDTime
    ∷ row 0x002A date_kind 8 0  -- ClearDate FTDDate
    ∷ row 0x002A float_kind 12 4  -- Price FTDPrice
    ∷ row 0x002A int_kind 4 0  -- Volume FTDVolume
    ∷ row 0x002A string_kind 20 0  -- OrderSysId FTDSysOrderId
    ∷ row 0x002A string_kind 15 0  -- UserId FTDUserId
    ∷ row 0x002A bool_flag_kind 1 0  -- Direction FTDDirection
    ∷ row 0x002A offset_flag_kind 1 0  -- OffsetFlag FTDOffsetFlag
    ∷ row 0x002A hedge_flag_kind 1 0  -- HedgeFlag FTDHedgeFlag
    ∷ row 0x002A string_kind 8 0  -- ParticipantId FTDParticipantId
    ∷ row 0x002A string_kind 8 0  -- ClientId FTDClientId
    ∷ row 0x002A string_kind 24 0  -- OrderLocalId FTDLocalId
    -- UserField, FID 0x002B: 6 rows, 46 bytes
    ∷ row 0x002B string_kind 15 0  -- UserId FTDUserId
    ∷ row 0x002B string_kind 8 0  -- ParticipantId FTDParticipantId
    ∷ row 0x002B string_kind 20 0  -- Name FTDStringType<20>
    ∷ row 0x002B bool_flag_kind 1 0  -- IsLogin FTDBoolFlag
    ∷ row 0x002B force_exit_code_kind 1 0  -- UserStatus FTDUserStatus
    ∷ row 0x002B force_exit_code_kind 1 0  -- UserType FTDUserType
    -- UserLoginField, FID 0x002C: 13 rows, 186 bytes
    ∷ row 0x002C string_kind 8 0  -- ParticipantId FTDParticipantId
    ∷ row 0x002C string_kind 15 0  -- UserId FTDUserId
    ∷ row 0x002C string_kind 20 0  -- IpAddr FTDStringType<20>
    ∷ row 0x002C bool_flag_kind 1 0  -- DialogStreamStatus FTDBoolFlag
    ∷ row 0x002C string_kind 20 0  -- DialogLoginTime FTDDateTime
    ∷ row 0x002C string_kind 20 0  -- DialogLogoutTime FTDDateTime
    ∷ row 0x002C bool_flag_kind 1 0  -- PrivateStreamStatus FTDBoolFlag
    ∷ row 0x002C string_kind 20 0  -- PrivateLoginTime FTDDateTime
    ∷ row 0x002C string_kind 20 0  -- PrivateLogoutTime FTDDateTime
    ∷ row 0x002C bool_flag_kind 1 0  -- BroadcastStreamStatus FTDBoolFlag
    ∷ row 0x002C string_kind 20 0  -- BroadcastLoginTime FTDDateTime
    ∷ row 0x002C string_kind 20 0  -- BroadcastLogoutTime FTDDateTime
    ∷ row 0x002C string_kind 20 0  -- FrontId FTDStringType<20>
    ∷ []

-- The rows of a field, its width, and whether the FID is known.
unfoldable pub rows_of : ℕ → List Row
rows_of fid = keep fid table

abbrev pub width_of : ℕ → ℕ
width_of fid = total (rows_of fid)

abbrev pub known : ℕ → Bool
known fid = ltb 0 (length (rows_of fid))
