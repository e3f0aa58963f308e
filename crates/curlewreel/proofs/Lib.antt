pub mod ModemCallLaws
pub mod HeadEndCallLaws
pub mod ReadLaws
pub mod WriteLaws
pub mod RoundTripParts
pub mod RoundTrip
pub mod Contracts
