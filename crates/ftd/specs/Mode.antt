-- The mode of a message, by its TID (01, "Typed items": "A number decides its mode by range").
use Rattle.std.specs.Prelude.{ℕ, List, [], ◌∷◌, Bool, cond, ◌&&◌, ◌||◌, leb, eqb}
use Rattle.ftd.specs.Values.{among}
use Rattle.ftd.specs.declared.mode.Mode.{Mode}
use Rattle.ftd.specs.declared.mode.Mode.TheVariants.{Private, Broadcast, Management, Dialog, Unknown}

-- The TIDs of Appendix A, in its order.
unfoldable pub listed_tids : List ℕ
listed_tids =
    0x0001  -- TID_Error
    ∷ 0x1005  -- TID_ForceExit
    ∷ 0x2007  -- TID_InstrumentChangeNotify
    ∷ 0x2006  -- TID_InstrumentStatusChangeNotify
    ∷ 0x2003  -- TID_MarketBulletin
    ∷ 0x2004  -- TID_MarketMatchData
    ∷ 0x2002  -- TID_MarketMatchIncData
    ∷ 0x2001  -- TID_MarketOrderIncData
    ∷ 0x2005  -- TID_MarketStatusChangeNotify
    ∷ 0x0004  -- TID_OrderAction
    ∷ 0x1003  -- TID_OrderConfirmation
    ∷ 0x0003  -- TID_OrderInsert
    ∷ 0x1002  -- TID_ParticipantBulletin
    ∷ 0x000C  -- TID_QryClient
    ∷ 0x0008  -- TID_QryDeposit
    ∷ 0x0005  -- TID_QryInstrument
    ∷ 0x000E  -- TID_QryInstrumentStatus
    ∷ 0x000B  -- TID_QryMarket
    ∷ 0x0002  -- TID_QryMarketMatchData
    ∷ 0x0012  -- TID_QryMarketOrderData
    ∷ 0x000D  -- TID_QryMarketStatus
    ∷ 0x0006  -- TID_QryOrder
    ∷ 0x0013  -- TID_QryParticipant
    ∷ 0x000A  -- TID_QryPosition
    ∷ 0x0009  -- TID_QryPPosition
    ∷ 0x0007  -- TID_QryTrade
    ∷ 0x0014  -- TID_QryUser
    ∷ 0x0015  -- TID_QryUserLogin
    ∷ 0x1001  -- TID_TradeInsertSingle
    ∷ 0x0016  -- TID_UserLogin
    ∷ 0x0017  -- TID_UserLogout
    ∷ 0x0018  -- TID_UserPasswordUpdate
    ∷ []

-- TID 0x1001 to 0x1003, 0x2001 to 0x2007; 0x0016, 0x0017 and 0x1005.
abbrev pub is_private : ℕ → Bool
is_private tid = leb 0x1001 tid && leb tid 0x1003

abbrev pub is_broadcast : ℕ → Bool
is_broadcast tid = leb 0x2001 tid && leb tid 0x2007

abbrev pub is_management : ℕ → Bool
is_management tid = eqb tid 0x0016 || (eqb tid 0x0017 || eqb tid 0x1005)

-- The remaining ones of Appendix A are dialog. A TID outside it has none of these modes.
unfoldable pub mode_of : ℕ → Mode
mode_of tid =
    cond (is_private tid) Private
    (cond (is_broadcast tid) Broadcast
    (cond (is_management tid) Management
    (cond (among tid listed_tids) Dialog
    Unknown)))
