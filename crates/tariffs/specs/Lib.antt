-- The tariff of home's sendings. Assumes nothing.

pub mod Tariffs
